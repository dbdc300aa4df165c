use Rattle.{std.{specs.Option.option_copied, proofs.Common.{◌≡◌, ap, ◌∙◌, rules}}, desk_model.specs.claim.Desk.Desk, store_command.specs.desk_store.claim.Clerks.desk_of}
use Rattle.inspect_command.proofs.Told.{are_held}
use Rattle.inspect_command.proofs.figures.held_by.Goals as goal

pub returns-clause-held : goal.returns-clause-held
returns-clause-held g c =
    let x = c.args.clerk.now in
    let shown = c.in_ok-catalogue.ensures in
    let one : option_copied c.geography.result ≡ (desk_of x).geography = c.geography.ensures ∙ ap (λ (d : Desk). d.geography) (c.deref.ensures ∙ shown) in
    let two : option_copied c.geography-2.result ≡ (desk_of x).geography = c.geography-2.ensures ∙ ap (λ (d : Desk). d.geography) (c.deref-2.ensures ∙ shown) in
    let three : option_copied c.geography-3.result ≡ (desk_of x).geography = c.geography-3.ensures ∙ ap (λ (d : Desk). d.geography) (c.deref-3.ensures ∙ shown) in
    are_held x c.in_ok-needed.needed _ (option_copied c.geography.result) one c.in_ok-needed.ensures (search rules)
