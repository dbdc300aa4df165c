use Rattle.{std.proofs.Common.{arith, rules}, audit_report.{specs.claim.ReportText.code_data, proofs.Lists.{AreFirst, first_written, text_more}}}
use Rattle.audit_report.proofs.values.counties_value.Goals as goal

pub returns : goal.returns
returns c = first_written (code_data 3) c.args.counties.now c.loop-county.county-index c.loop-county.values (omega (arith, c.loop-county-test.false)) c.loop-county.invariant

pub loop-county-preserved : goal.loop-county-preserved
loop-county-preserved c = search (rules, AreFirst, text_more)
