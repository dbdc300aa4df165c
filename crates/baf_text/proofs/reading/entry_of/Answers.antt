use Rattle.{std.{specs.Prelude.is_some, proofs.Common.{◌≡◌, ◌<◌, length, ap, sym, ◌∙◌, rules}}, desk_model.specs.claim.Geography.id_at}
use Rattle.baf_text.proofs.Values.{line_unknown, line_entered}
use Rattle.baf_text.proofs.reading.entry_of.Goals as goal

pub returns-in_default-place_near-clause-entry : goal.returns-in_default-place_near-clause-entry
returns-in_default-place_near-clause-entry c = search (rules, c.blocks-2.ensures.value, c.in_default-place_near.ensures.missing, line_unknown)

pub returns-in-Some-district_of-clause-entry : goal.returns-in-Some-district_of-clause-entry
returns-in-Some-district_of-clause-entry c = λ so_far line lists is.
    let at : (c.in-Some-place_near.place < length c.args.geography.now.blocks) × (id_at c.args.geography.now.blocks c.in-Some-place_near.place ≡ c.in-Some.row.0)
    = rw c.blocks-2.ensures.value at c.in-Some-place_near.ensures.found in
    rw (← is, c.in-Some.is)
    (line_entered c.args.geography.now c.args.n so_far c.args.listed.now c.in-Some-place_near.place c.in-Some.row c.in-Some-district_of.district
    c.blocks-2.ensures.valid.rising at.0 at.1 lists (ap is_some (sym c.get.ensures) ∙ sym c.is_some.ensures ∙ c.if-is_some.false) (sym c.district_of.ensures ∙ c.in-Some-district_of.is))
