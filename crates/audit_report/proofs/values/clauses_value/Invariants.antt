use Rattle.audit_report.{specs.claim.ReportText.clause_data, proofs.Lists.AreFirst}
use Rattle.audit_report.proofs.values.clauses_value.Given as goal

abbrev pub invariant-loop-clause : goal.invariant-loop-clause
invariant-loop-clause l = AreFirst clause_data l.clauses l.clause-index l.values.items
