use Rattle.{std.{specs.Option.option_copied, proofs.Common.{sym, subst, rules}}, inspect_command.specs.Needs.AreNeeded}
use Rattle.inspect_command.proofs.Counties.{some_ranges, by_counties, without_counties}
use Rattle.desk_store.proofs.plan_revisions.CommandCounties.{few_ranges}
use Rattle.inspect_command.proofs.needs.needed.Goals as goal

pub returns-in-None : goal.returns-in-None
returns-in-None c = subst (λ o. AreNeeded (option_copied o) (record { revision = 0; patch = 0; fork = 0 }) 0) (sym c.in-None.is) without_counties

pub needed_by-requires-clause-some : goal.needed_by-requires-clause-some
needed_by-requires-clause-some c = search (rules, some_ranges)

pub needed_by-requires-clause-few : goal.needed_by-requires-clause-few
needed_by-requires-clause-few c = search (rules, few_ranges)

pub returns-in_ok-needed-in-Some : goal.returns-in_ok-needed-in-Some
returns-in_ok-needed-in-Some c = search (rules, by_counties)
