use Rattle.{std.proofs.Common.{nat_eq, refl, sym, subst, subst₂, arith}, plan_revisions_sweeps.{specs.Finding.{EndsAt, IsNextChunk}, proofs.Least.sought_next}}
use Rattle.desk_store_pages.proofs.Looking.{begins, fails, finds}
use Rattle.plan_revisions_sweeps.proofs.pieces.seek_piece.Goals as goal

pub returns-then-number-gap : goal.returns-then-number-gap
returns-then-number-gap g c = begins (λ m holds rows gap. (gap.0 c.args.number c.if-gap-number.true c.if-number-gap.true c.ranges.number.fits, gap))

pub returns-then-number-gap-2 : goal.returns-then-number-gap-2
returns-then-number-gap-2 g c = begins (λ m holds rows gap. (subst₂ (λ b n. EndsAt b n c.args.row.now.key) c.if-gap.true (sym c.if-number-gap-2.true) gap.1, gap))

pub returns-in_err-chunk_from : goal.returns-in_err-chunk_from
returns-in_err-chunk_from g c = fails c.from_residual.result c.in_err-chunk_from.ensures c.from_residual.ensures.1 (λ m rows. rows)

pub returns-in-None : goal.returns-in-None
returns-in-None g c =
    let number = c.args.number in
    let fits = c.ranges.number.fits in
    finds c.in_ok-chunk_from.ensures (λ m found rows gap.
    let free = subst (IsNextChunk number c.chunk_from.new.row.key m) c.in-None.is (found rows) in
    (free number (omega arith) fits fits, (λ other from below small. free other from small small, tt)))

pub returns-in-Some : goal.returns-in-Some
returns-in-Some g c =
    let number = c.args.number in
    let next = c.in-Some.next in
    finds c.in_ok-chunk_from.ensures (λ m found rows gap.
    sought_next m number next c.chunk_from.new.row.key c.ranges.number.fits (subst (IsNextChunk number c.chunk_from.new.row.key m) c.in-Some.is (found rows)) (nat_eq next number) refl)
