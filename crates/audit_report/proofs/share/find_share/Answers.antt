use Rattle.{std.proofs.Common.rules, audit_report.proofs.Sharing.{next_more, next_all}}
use Rattle.audit_report.proofs.share.find_share.Goals as goal

pub loop-piece-preserved : goal.loop-piece-preserved
loop-piece-preserved g c =
    search (rules, next_more c.args.work.now c.args.workers c.args.worker c.loop-piece.piece c.loop-piece.found.items c.in_ok-find.field-0 c.loop-piece.invariant c.in_ok-find.ensures)

pub returns : goal.returns
returns g c = search next_all
