use Rattle.audit_splits_nesting.specs.{Marks.{AreMarks, one_part, value_at}, claim.Divided.IsInCounty}
use Rattle.audit_splits_nesting.proofs.divided.mark_counties.Given as goal

abbrev pub invariant-loop-i : goal.invariant-loop-i
invariant-loop-i l = AreMarks (IsInCounty l.blocks) one_part (value_at l.plan) l.i 1000 l.marks
