use Rattle.{std.proofs.Common.{◌≡◌, ◌+◌, ◌≤◌, take, length}, page_btree_node.specs.claim.{Entries.size_of, Node.{Node, IsNode}}}
use Rattle.page_btree_node.proofs.spot.end_from.Given as goal

abbrev pub invariant-loop-k : goal.invariant-loop-k
invariant-loop-k l = (l.at ≤ l.end) × (l.end ≤ 4096) × ((node : Node) → IsNode l.page node → l.index ≤ length node.entries → l.at ≡ 4 + size_of (take l.index node.entries) → l.end ≡ 4 + size_of (take l.k node.entries))
