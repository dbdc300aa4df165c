use Rattle.{std.proofs.Common.◌≤◌, page_btree_node.specs.{Searching.IsBelow, claim.Node.{Node, IsNode}}}
use Rattle.page_btree_node.proofs.spot.spot_after.Given as goal

abbrev pub invariant-loop-k : goal.invariant-loop-k
invariant-loop-k l = (4 ≤ l.at) × (l.at ≤ 4096) × ((node : Node) → IsNode l.page node → IsBelow l.key node.entries l.fn.from.k l.fn.from.at → IsBelow l.key node.entries l.k l.at)
