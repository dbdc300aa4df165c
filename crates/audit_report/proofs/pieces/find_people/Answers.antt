use Rattle.{std.proofs.Common.{◌∙◌, arith, rules}, audit_report.proofs.Reporting.populations_long}
use Rattle.audit_report.proofs.pieces.find_people.Goals as goal

pub congress-requires : goal.congress-requires
congress-requires c =
    omega (arith, populations_long c.args.geography.now.blocks c.args.plan.now c.args.count c.as_slice.result.now (c.as_slice.ensures.value ∙ c.in_ok-populations.ensures.districts))

pub mean-requires : goal.mean-requires
mean-requires c =
    omega (arith, populations_long c.args.geography.now.blocks c.args.plan.now c.args.count c.as_slice-2.result.now (c.as_slice-2.ensures.value ∙ c.in_ok-populations.ensures.districts))

pub range-requires : goal.range-requires
range-requires c = search (rules, populations_long)
