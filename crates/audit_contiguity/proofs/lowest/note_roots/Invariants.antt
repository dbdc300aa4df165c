use Rattle.{std.proofs.Common.length, audit_contiguity.specs.Lowest.AreAllLowest}
use Rattle.audit_contiguity.proofs.lowest.note_roots.Given as goal

abbrev pub invariant-loop-i : goal.invariant-loop-i
invariant-loop-i l = AreAllLowest l.parents l.plan l.i l.fn.first (length l.initial.lowest) l.lowest
