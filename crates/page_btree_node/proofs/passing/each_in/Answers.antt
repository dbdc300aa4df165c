use Rattle.{std.proofs.Common.{arith, rules}, page_btree_node.proofs.Passed.{passes_both, passes_found, passes_not}}
use Rattle.page_btree_node.proofs.passing.each_in.Goals as goal

pub loop-k-preserved : goal.loop-k-preserved
loop-k-preserved c = search (rules, c.in-Some.ensures.some, passes_both, passes_found)

pub returns-in-None : goal.returns-in-None
returns-in-None c = λ es is long. passes_not _ _ _ _ es c.loop-k.invariant.2 is (omega arith) c.in-None.ensures.none
