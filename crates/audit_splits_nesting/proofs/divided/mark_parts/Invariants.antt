use Rattle.{std.proofs.Common.length, audit_splits_nesting.specs.{Marks.{AreMarks, value_at}, claim.Divided.{county_at, IsInCity}}}
use Rattle.audit_splits_nesting.proofs.divided.mark_parts.Given as goal

abbrev pub invariant-loop-i : goal.invariant-loop-i
invariant-loop-i l = AreMarks (IsInCity l.blocks) (county_at l.blocks) (value_at l.plan) l.i (length l.initial.marks) l.marks
