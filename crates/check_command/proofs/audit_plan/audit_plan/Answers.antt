use Rattle.check_command.proofs.Shared.{of_printed}
use Rattle.check_command.proofs.audit_plan.audit_plan.Goals as goal

pub returns-clause-audits : goal.returns-clause-audits
returns-clause-audits g c = let done = c.audit_of-outcome.ensures.audits in (done.0, done.1, (c.audit_of-outcome.result, done.2, c.end_audit.ensures))

pub returns-clause-shared : goal.returns-clause-shared
returns-clause-shared g c is = of_printed c.audit_of-outcome.result c.end_audit.result _ _ _ _ c.end_audit.ensures c.audit_of-outcome.ensures.shared is
