use Rattle.{std.proofs.Common.arith, audit_report.{specs.claim.ReportText.number_data, proofs.Lists.first_written}}
use Rattle.audit_report.proofs.values.people_value.Goals as goal

pub returns : goal.returns
returns c = first_written number_data c.args.people.now c.loop-number.number-index c.loop-number.values (omega (arith, c.loop-number-test.false)) c.loop-number.invariant
