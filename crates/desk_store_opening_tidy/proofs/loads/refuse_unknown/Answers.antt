use Rattle.{std.{specs.FinMap.get as row_at, proofs.Common.{inr, refl, sym, ap, ◌∙◌}}, desk_store_opening_tidy.proofs.After.{sealed_known, mark_known}}
use Rattle.desk_store_pages.proofs.Looking.{begins, tells}
use Rattle.desk_store_opening_tidy.proofs.loads.refuse_unknown.Goals as goal

pub returns-then-is_sealed : goal.returns-then-is_sealed
returns-then-is_sealed g c = begins (λ m holds stands.
    let is = c.if-is_sealed.ensures.sealed refl in
    sealed_known m c.args.sealed c.args.load stands is.0 is.1)

pub returns : goal.returns
returns g c = tells c.refuse_unmarked.result c.refuse_unmarked.ensures
    (λ m _ mark stands. inr (ap (row_at m) (sym c.begun.ensures) ∙ mark))
    (λ m known. ap (row_at m) c.begun.ensures ∙ mark_known m c.args.sealed c.args.load known.stands (c.if-is_sealed.ensures.other refl) known.fits known.is)
