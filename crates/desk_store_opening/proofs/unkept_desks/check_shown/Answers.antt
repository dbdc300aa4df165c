use Rattle.{std.proofs.Common.subst, geo_tables.specs.Elements.IsGeographyRead, desk_store_opening.proofs.{PlanNumbers.none_counted, Told.{copies, desk_shown, new_desk_shown}}}
use Rattle.desk_store_pages.proofs.Looking.{both, fails_then, finds, gathered}
use Rattle.desk_store_opening.proofs.unkept_desks.check_shown.Goals as goal

pub returns-in_err-read_none : goal.returns-in_err-read_none
returns-in_err-read_none g c = fails_then c.in_ok-the_geography.ensures c.from_residual-in_err-read_none.result (gathered _ c.in_err-read_none.ensures.looks) c.from_residual-in_err-read_none.ensures.1 (λ m the_geography is. absurd is)

pub returns-in_default : goal.returns-in_default
returns-in_default g c = finds (both c.in_ok-the_geography.ensures (gathered _ c.in_ok-read_none.ensures.looks)) (λ m is. (new_desk_shown m c.new.result.items c.new.ensures.items is.1, none_counted m c.args.counts.now c.requires.none is.1.plans))

pub check_plans-requires-clause-cut : goal.check_plans-requires-clause-cut
check_plans-requires-clause-cut g c = (c.in-Some.the_geography, c.counties-ranges.ensures)

pub returns-in_err-check_plans : goal.returns-in_err-check_plans
returns-in_err-check_plans g c = fails_then c.in_ok-the_geography.ensures c.from_residual-in_err-check_plans.result c.in_err-check_plans.ensures c.from_residual-in_err-check_plans.ensures.1 (λ m the_geography is. is)

pub returns : goal.returns
returns g c =
    let ranges = c.counties-ranges.result.now in
    copies (both c.in_ok-the_geography.ensures c.in_ok-check_plans.ensures) ranges c.copied.result c.copied.ensures.same c.copied.ensures.err (λ m is all same.
    (desk_shown m c.in-Some.the_geography ranges all.items same c.counties-ranges.ensures (subst (λ x. IsGeographyRead m x) c.in-Some.is is.0.there) is.1.0 is.1.2, is.1.1))
