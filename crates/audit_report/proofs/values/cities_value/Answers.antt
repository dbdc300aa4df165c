use Rattle.{std.proofs.Common.{arith, rules}, audit_report.{specs.claim.ReportText.code_data, proofs.Lists.{AreFirst, first_written, text_more}}}
use Rattle.audit_report.proofs.values.cities_value.Goals as goal

pub returns : goal.returns
returns c = first_written (code_data 5) c.args.cities.now c.loop-city.city-index c.loop-city.values (omega (arith, c.loop-city-test.false)) c.loop-city.invariant

pub loop-city-preserved : goal.loop-city-preserved
loop-city-preserved c = search (rules, AreFirst, text_more)
