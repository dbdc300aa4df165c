use Rattle.{std.proofs.Common.length, audit_splits_nesting.specs.Splits.AreGroupMarks}
use Rattle.audit_splits_nesting.proofs.splits.mark_groups.Given as goal

abbrev pub invariant-loop-i : goal.invariant-loop-i
invariant-loop-i l = AreGroupMarks l.blocks l.plan l.i (length l.initial.cities) l.counties l.cities l.by_county
