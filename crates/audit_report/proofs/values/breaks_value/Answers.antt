use Rattle.{std.proofs.Common.arith, audit_report.{specs.claim.ReportText.break_data, proofs.Lists.first_written}}
use Rattle.audit_report.proofs.values.breaks_value.Goals as goal

pub returns : goal.returns
returns c = first_written break_data c.args.breaks.now c.loop-found.found-index c.loop-found.values (omega (arith, c.loop-found-test.false)) c.loop-found.invariant
