use Rattle.{std.proofs.Common.{◌≡◌, ◌+◌, ◌-◌, ◌≤◌, take, length}, page_btree_node.specs.claim.{Entries.size_of, Node.{Node, IsNode}}}
use Rattle.page_btree_node.proofs.spot.passed_from.Given as goal

abbrev pub invariant-loop-near : goal.invariant-loop-near
invariant-loop-near l =
    (l.fn.from.at ≤ l.near.at) × (l.near.at ≤ 4096)
    × ((node : Node) → IsNode l.page node → l.fn.from.k ≤ length node.entries → l.fn.from.at ≡ 4 + size_of (take l.fn.from.k node.entries) → (l.near.k ≤ length node.entries) × (l.near.at ≡ 4 + size_of (take l.near.k node.entries)))

abbrev pub decreases-loop-near : goal.decreases-loop-near
decreases-loop-near l = l.count - l.near.k
