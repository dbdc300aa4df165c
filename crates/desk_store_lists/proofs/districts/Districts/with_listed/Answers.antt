use Rattle.{std.proofs.Common.{◌≡◌, ◌*◌, length, sym, subst, ap, ◌∙◌, arith}, desk_store_lists.{specs.{Laid.laid, Pieces.{Piece, AreFull}}, proofs.Cut.joined_long}}
use Rattle.desk_store_lists.proofs.Laying.{next_laid, next_fit, next_full_laid, laid_whole, laid_cut}
use Rattle.desk_store_lists.proofs.districts.Districts.with_listed.Goals as goal

pub piece_with-requires : goal.piece_with-requires
piece_with-requires c =
    let full : AreFull c.as_slice-pieces.result.now = subst AreFull (sym c.as_slice-pieces.ensures.value) c.self.invariant.are_full in
    let long : length c.index-pieces-place.result ≡ 512
    = ap (λ (q : Piece). length q) c.index-pieces-place.is ∙ full c.loop-place.place c.index-pieces-place.result c.loop-place-test.true in
    omega (arith, long, c.loop-place-test.true, joined_long c.self.inside.full.items c.self.invariant.are_full, c.self.invariant.counted, ap length c.as_slice-pieces.ensures.value)

pub loop-place-preserved : goal.loop-place-preserved
loop-place-preserved c =
    let full : AreFull c.as_slice-pieces.result.now = subst AreFull (sym c.as_slice-pieces.ensures.value) c.self.invariant.are_full in
    let is = c.in_ok-next.ensures ∙ ap (λ (q : Piece). laid c.args.first c.args.listed.now (c.loop-place.place * 512) q) c.index-pieces-place.is in
    record {
      are_full = next_full_laid c.args.first c.args.listed.now c.loop-place.full.items c.push.new.self.items c.as_slice-pieces.result.now c.loop-place.place c.in_ok-next.next
          c.index-pieces-place.result c.loop-place.invariant.are_full full c.loop-place-test.true c.in_ok-push.ensures.items is;
      same = next_laid c.args.first c.args.listed.now c.loop-place.full.items c.push.new.self.items c.as_slice-pieces.result.now c.loop-place.place c.in_ok-next.next
          c.index-pieces-place.result c.loop-place.invariant.same full c.loop-place-test.true c.in_ok-push.ensures.items is;
      fit = next_fit c.args.first c.args.listed.now c.loop-place.full.items c.push.new.self.items c.as_slice-pieces.result.now c.loop-place.place c.in_ok-next.next
          c.index-pieces-place.result c.loop-place.invariant.fit c.districts_fit.ensures c.in_ok-push.ensures.items;
    }

pub invariant_of-result : goal.invariant_of-result
invariant_of-result c =
    laid_cut c.args.first c.args.listed.now c.loop-place.full.items c.self.inside.full.items c.in_ok-rest.rest c.self.inside.rest c.loop-place.place
    (rw (← c.as_slice-pieces.ensures.value) c.loop-place.invariant.same) (omega (arith, c.loop-place-test.false, ap length c.as_slice-pieces.ensures.value)) c.self.invariant.are_full
    (rw (← c.as_slice-pieces.ensures.value) c.in_ok-rest.ensures)
    c.self.inside.count c.loop-place.invariant.are_full c.self.invariant c.loop-place.invariant.fit c.districts_fit-2.ensures

pub returns : goal.returns
returns c =
    laid_whole c.args.first c.args.listed.now c.loop-place.full.items c.self.inside.full.items c.in_ok-rest.rest c.self.inside.rest c.loop-place.place
    (rw (← c.as_slice-pieces.ensures.value) c.loop-place.invariant.same) (omega (arith, c.loop-place-test.false, ap length c.as_slice-pieces.ensures.value)) c.self.invariant.are_full
    (rw (← c.as_slice-pieces.ensures.value) c.in_ok-rest.ensures)
    ∙ ap (laid c.args.first c.args.listed.now 0) c.self.view_is
