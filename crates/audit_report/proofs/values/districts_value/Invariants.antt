use Rattle.audit_report.{specs.claim.ReportText.number_data, proofs.Lists.AreFirst}
use Rattle.audit_report.proofs.values.districts_value.Given as goal

abbrev pub invariant-loop-district : goal.invariant-loop-district
invariant-loop-district l = AreFirst number_data l.districts l.district-index l.values.items
