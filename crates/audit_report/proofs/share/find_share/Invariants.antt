use Rattle.{std.proofs.Common.◌-◌, audit_report.specs.Share.AreNext}
use Rattle.audit_report.proofs.share.find_share.Given as goal

abbrev pub invariant-loop-piece : goal.invariant-loop-piece
invariant-loop-piece g l = AreNext l.fn.work l.fn.workers l.fn.worker l.piece l.found.items

abbrev pub decreases-loop-piece : goal.decreases-loop-piece
decreases-loop-piece g l = 3 - l.piece
