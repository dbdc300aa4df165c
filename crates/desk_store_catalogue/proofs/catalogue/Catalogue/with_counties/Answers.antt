use Rattle.{std.proofs.Common.{refl, rules}, desk_model.specs.declared.command.Command.TheVariants.Counties, desk_store_catalogue.specs.Accepting.StepRefuses}
use Rattle.desk_store_catalogue.proofs.{Drafted.drafts, Results.match_of, Stepped.counties_refused}
use Rattle.desk_store_catalogue.proofs.catalogue.Catalogue.with_counties.Goals as goal

pub returns-in_err-entry : goal.returns-in_err-entry
returns-in_err-entry c = search (rules, match_of)

pub returns-in_err-made : goal.returns-in_err-made
returns-in_err-made c =
    match_of c.from_residual-in_err-made.result _ c.in_err-made.field-0.0 (StepRefuses c.args.self.now (Counties c.args.name.now c.args.after c.args.body.now))
    c.from_residual-in_err-made.ensures.1 (search (rules, counties_refused))

pub returns : goal.returns
returns c =
    drafts c.args.self.now c.args.name.now c.args.after c.in_ok-entry.entry.now c.in_ok-made.made.districts c.in_ok-entry.ensures
    (Counties c.args.name.now c.args.after c.args.body.now) c.with_revision.result (λ _. refl) (search rules) c.with_revision.ensures
