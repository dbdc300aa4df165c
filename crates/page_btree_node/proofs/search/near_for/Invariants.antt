use Rattle.{std.proofs.Common.{◌≡◌, ◌+◌, ◌-◌, ◌≤◌, take}, page_btree_node.specs.{Searching.{IsLast, RisesAfter}, claim.{Entries.size_of, Node.{Node, IsNode}}}}
use Rattle.page_btree_node.proofs.search.near_for.Given as goal

abbrev pub invariant-loop-near : goal.invariant-loop-near
invariant-loop-near l =
    (l.near.at ≤ 4096) × (l.near.value ≤ 4096) × (l.near.k ≤ l.count)
    × ((node : Node) → IsNode l.page node → l.near.at ≡ 4 + size_of (take l.near.k node.entries))
    × ((node : Node) → IsNode l.page node → RisesAfter node.entries → IsLast l.page l.key node.entries l.near.k l.near.value l.near.at)

abbrev pub decreases-loop-near : goal.decreases-loop-near
decreases-loop-near l = l.count - l.near.k
