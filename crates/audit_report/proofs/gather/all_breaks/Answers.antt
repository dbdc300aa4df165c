use Rattle.{std.proofs.Common.arith, audit_report.proofs.Gathering.{found_at, breaks_more, breaks_all}}
use Rattle.audit_report.proofs.gather.all_breaks.Goals as goal

pub loop-piece-preserved : goal.loop-piece-preserved
loop-piece-preserved c =
    rw (c.in_ok-extend_from_slice.ensures.items, c.breaks.ensures)
    (breaks_more c.breaks_follow.ensures c.args.work.now c.loop-piece.piece c.loop-piece.breaks.items c.index-found.result.now (omega arith)
    ((c.requires.shared.cut.numbered c.loop-piece.piece).0 c.loop-piece-test.true) c.loop-piece.invariant
    (search found_at))

pub returns : goal.returns
returns c = breaks_all c.args.work.now c.args.pieces c.loop-piece.piece c.loop-piece.breaks.items c.requires.shared.cut.numbered (omega (arith, c.loop-piece-test.false)) c.loop-piece.invariant
