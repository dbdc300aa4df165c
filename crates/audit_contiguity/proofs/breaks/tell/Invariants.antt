use Rattle.audit_contiguity.proofs.Telling.{AreTold}
use Rattle.audit_contiguity.proofs.breaks.tell.Given as goal

abbrev pub invariant-loop-k : goal.invariant-loop-k
invariant-loop-k l = AreTold l.geography l.plan l.fn.first l.fn.last l.k l.breaks.items
