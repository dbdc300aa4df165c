use Rattle.audit_report.{specs.claim.ReportText.break_data, proofs.Lists.AreFirst}
use Rattle.audit_report.proofs.values.breaks_value.Given as goal

abbrev pub invariant-loop-found : goal.invariant-loop-found
invariant-loop-found l = AreFirst break_data l.breaks l.found-index l.values.items
