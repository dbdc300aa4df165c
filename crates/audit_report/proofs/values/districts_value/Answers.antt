use Rattle.{std.proofs.Common.arith, audit_report.{specs.claim.ReportText.number_data, proofs.Lists.first_written}}
use Rattle.audit_report.proofs.values.districts_value.Goals as goal

pub returns : goal.returns
returns c = first_written number_data c.args.districts.now c.loop-district.district-index c.loop-district.values (omega (arith, c.loop-district-test.false)) c.loop-district.invariant
