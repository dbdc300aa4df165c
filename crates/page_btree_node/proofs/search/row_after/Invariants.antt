use Rattle.{std.proofs.Common.{◌-◌, ◌≤◌}, page_btree_node.specs.{Searching.IsBelow, claim.Node.{Node, IsNode}}}
use Rattle.page_btree_node.proofs.search.row_after.Given as goal

abbrev pub invariant-loop-near : goal.invariant-loop-near
invariant-loop-near l =
    (4 ≤ l.near.at) × (l.near.at ≤ 4096) × (l.near.k ≤ l.count)
    × ((node : Node) → IsNode l.page node → IsBelow l.key node.entries l.fn.from.k l.fn.from.at → IsBelow l.key node.entries l.near.k l.near.at)

abbrev pub decreases-loop-near : goal.decreases-loop-near
decreases-loop-near l = l.count - l.near.k
