use Rattle.audit_report.{specs.claim.ReportText.code_data, proofs.Lists.AreFirst}
use Rattle.audit_report.proofs.values.cities_value.Given as goal

abbrev pub invariant-loop-city : goal.invariant-loop-city
invariant-loop-city l = AreFirst (code_data 5) l.cities l.city-index l.values.items
