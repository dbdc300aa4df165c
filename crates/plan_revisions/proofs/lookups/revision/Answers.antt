use Rattle.{std.proofs.Common.{◌++◌, ◌∙◌, List, ℕ, ap, sym, subst}, desk_model.specs.declared.ranges.CountyRange.CountyRange, plan_revisions.specs.Lookups.IsRevisionOf}
use Rattle.desk_store_pages.proofs.Looking.{finds}
use Rattle.plan_revisions.proofs.lookups.revision.Goals as goal

pub returns : goal.returns
returns g c = finds c.in_ok-append_districts.ensures (λ m appended all said.
    appended all (subst (λ (l : List CountyRange). IsRevisionOf l c.args.name.now c.args.revision m all) (sym c.counties.ensures) said)
    ∙ ap (λ (l : List ℕ). l ++ all) c.new-districts.ensures.items)
