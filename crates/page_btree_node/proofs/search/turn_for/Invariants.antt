use Rattle.{std.proofs.Common.◌≤◌, page_btree_node.specs.{Searching.{IsLast, RisesAfter}, claim.Node.{Node, IsNode}}}
use Rattle.page_btree_node.proofs.search.turn_for.Given as goal

abbrev pub invariant-loop-k : goal.invariant-loop-k
invariant-loop-k l = (l.at ≤ 4096) × (l.value ≤ 4096) × ((node : Node) → IsNode l.page node → RisesAfter node.entries → IsLast l.page l.key node.entries l.k l.value l.at)
