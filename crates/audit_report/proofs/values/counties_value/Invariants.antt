use Rattle.audit_report.{specs.claim.ReportText.code_data, proofs.Lists.AreFirst}
use Rattle.audit_report.proofs.values.counties_value.Given as goal

abbrev pub invariant-loop-county : goal.invariant-loop-county
invariant-loop-county l = AreFirst (code_data 3) l.counties l.county-index l.values.items
