use Rattle.{std.proofs.Common.{◌*◌, ◌-◌, min}, audit_contiguity.specs.claim.Breaks.AreBreaks}
use Rattle.audit_report.proofs.gather.all_breaks.Given as goal

abbrev pub invariant-loop-piece : goal.invariant-loop-piece
invariant-loop-piece l = AreBreaks l.work.geography l.work.plan 1 (min (16 * (l.piece - 3)) l.work.count) l.breaks.items
