use Rattle.{std.proofs.Common.length, audit_splits_nesting.specs.{Marks.{AreMarks, one_part, value_at}, claim.Divided.IsInCity}}
use Rattle.audit_splits_nesting.proofs.divided.mark_cities.Given as goal

abbrev pub invariant-loop-i : goal.invariant-loop-i
invariant-loop-i l = AreMarks (IsInCity l.blocks) one_part (value_at l.plan) l.i (length l.initial.marks) l.marks
