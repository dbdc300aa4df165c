use Rattle.file_commands.proofs.migrating.migrate_desk.Goals as goal

pub returns : goal.returns
returns g c = record { is_opened = _; old = _; new = _; told_old = _; told_new = _; did = c.migrate_in_file-status.ensures }
