use Rattle.audit_report.{specs.claim.ReportText.number_data, proofs.Lists.AreFirst}
use Rattle.audit_report.proofs.values.people_value.Given as goal

abbrev pub invariant-loop-number : goal.invariant-loop-number
invariant-loop-number l = AreFirst number_data l.people l.number-index l.values.items
