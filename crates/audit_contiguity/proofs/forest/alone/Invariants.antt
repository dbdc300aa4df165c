use Rattle.audit_contiguity.specs.Forest.{AreAlone}
use Rattle.audit_contiguity.proofs.forest.alone.Given as goal

abbrev pub invariant-loop-i : goal.invariant-loop-i
invariant-loop-i l = AreAlone l.i l.parents.items
