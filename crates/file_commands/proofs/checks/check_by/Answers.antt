use Rattle.file_commands.proofs.checks.check_by.Goals as goal

pub returns-clause-audit : goal.returns-clause-audit
returns-clause-audit g c =
    let told = c.audit_paths-status.ensures.audits in
    record { files = told.files; left = told.audits.0; old = _; new = _; told_old = _; told_new = _; audits = told.audits.2 }
