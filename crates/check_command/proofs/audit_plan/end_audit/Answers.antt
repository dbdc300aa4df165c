use Rattle.check_command.proofs.audit_plan.end_audit.Goals as goal

pub returns-in-Ok : goal.returns-in-Ok
returns-in-Ok g c = rw c.in-Ok.is (rw (← c.as_bytes.ensures.value, ← c.report_status-good.ensures) c.print.ensures)
