use Rattle.audit_contiguity.specs.Forest.{IsForest}
use Rattle.audit_contiguity.proofs.forest.join_pairs.Given as goal

abbrev pub invariant-loop-pair : goal.invariant-loop-pair
invariant-loop-pair l = IsForest l.pairs l.plan l.fn.first l.fn.last l.pair-index l.parents
