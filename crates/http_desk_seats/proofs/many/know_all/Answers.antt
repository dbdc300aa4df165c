use Rattle.{std.proofs.Common.{◌∙◌, All, IfSome, sym, subst, take, take_all, arith}, desk_gallery.specs.Fronts.Kept, http_desk_seats.proofs.Counts.one_more_begins}
use mathlib.Core.List.{IsPrefix}
use Rattle.http_desk_seats.proofs.many.know_all.Goals as goal

pub loop-place-preserved : goal.loop-place-preserved
loop-place-preserved g c =
    let so_far = subst (λ (k : Kept g.row.D.Denot). All (λ p. IfSome p.guest (λ v. IsPrefix v.heard k.shown)) (take c.loop-place.place-index c.args.places.now)) (sym c.know_at.ensures.same) c.loop-place.invariant.0 in (
      one_more_begins (λ p. p.guest) c.know_at.new.front.shown c.args.places.now c.loop-place.place-index c.place-item.result (omega arith) so_far c.place-item.is c.know_at.ensures.begins,
      c.know_at.ensures.same ∙ c.loop-place.invariant.1,
    )

pub returns-clause-all : goal.returns-clause-all
returns-clause-all g c =
    subst (λ l. All (λ p. IfSome p.guest (λ v. IsPrefix v.heard c.loop-place.front.shown)) l) (take_all c.loop-place.place-index c.args.places.now (omega arith)) c.loop-place.invariant.0
