use Rattle.audit_report.proofs.Sharing.{AreOwnSoFar}
use Rattle.audit_report.proofs.share.own_parts.Given as goal

abbrev pub invariant-loop-piece : goal.invariant-loop-piece
invariant-loop-piece l = AreOwnSoFar l.workers l.worker l.piece l.own.items
