use Rattle.page_btree_node.specs.{Searching.IsBelow, claim.Node.{Node, IsNode}}
use Rattle.page_btree_node.proofs.search.place_from.Given as goal

abbrev pub invariant-loop-k : goal.invariant-loop-k
invariant-loop-k l = (node : Node) → IsNode l.page node → IsBelow l.key node.entries l.k l.at
