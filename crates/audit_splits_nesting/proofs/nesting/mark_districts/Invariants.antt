use Rattle.{std.proofs.Common.length, audit_splits_nesting.specs.{Marks.{AreMarks, one_part, value_at}, claim.Nested.IsIn}}
use Rattle.audit_splits_nesting.proofs.nesting.mark_districts.Given as goal

abbrev pub invariant-loop-i : goal.invariant-loop-i
invariant-loop-i l = AreMarks (IsIn l.plan) one_part (value_at l.companion) l.i (length l.initial.marks) l.marks
