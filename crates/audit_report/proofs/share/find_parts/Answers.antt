use Rattle.{std.proofs.Common.{◌≡◌, ◌+◌, ◌-◌, ◌%◌, ap, ◌∙◌, arith}, audit_report.proofs.Sharing.{next_is_own, next_more, next_all, breaks_of_piece}}
use Rattle.audit_report.specs.declared.work.Found.TheVariants as found
use Rattle.audit_report.proofs.share.find_parts.Goals as goal

pub breaks-requires-clause-own : goal.breaks-requires-clause-own
breaks-requires-clause-own g c =
    let piece = c.loop-piece.piece in
    let same : piece - 3 + 3 ≡ piece = omega arith in
    let own : (piece - 3 + 3) % c.args.workers ≡ c.args.worker =
    ap (λ p. p % c.args.workers) same ∙ next_is_own c.args.work.now c.args.workers c.args.worker piece c.loop-piece.found.items c.requires.one.own c.loop-piece.invariant.next in
    rw c.in_ok-trees.ensures (c.in_ok-own.ensures (piece - 3) (omega arith) own)

pub loop-piece-preserved : goal.loop-piece-preserved
loop-piece-preserved g c =
    let piece = c.loop-piece.piece in
    let here = breaks_of_piece c.args.work.now c.in_ok-own.own.items c.in_ok-trees.trees piece c.in_ok-breaks.breaks c.loop-piece.invariant.after c.in_ok-trees.ensures c.in_ok-breaks.ensures in record {
      after = omega (arith, c.loop-piece.invariant.after);
      next = rw c.in_ok-push.ensures.items
          (next_more c.args.work.now c.args.workers c.args.worker piece c.loop-piece.found.items (found.Breaks c.in_ok-breaks.breaks) c.loop-piece.invariant.next here);
    }

pub returns : goal.returns
returns g c = next_all c.args.work.now c.args.pieces c.args.workers c.args.worker c.loop-piece.piece c.loop-piece.found.items (omega (arith, c.loop-piece-test.false)) c.loop-piece.invariant.next
