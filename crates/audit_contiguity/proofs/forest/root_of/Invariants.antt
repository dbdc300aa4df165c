use Rattle.audit_contiguity.proofs.Rooting.{IsClimb}
use Rattle.audit_contiguity.proofs.forest.root_of.Given as goal

abbrev pub invariant-loop-at : goal.invariant-loop-at
invariant-loop-at l = IsClimb l.initial.parents l.fn.block l.parents l.at

abbrev pub decreases-loop-at : goal.decreases-loop-at
decreases-loop-at l = l.at
