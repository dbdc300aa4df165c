use Rattle.file_commands.proofs.sweeping.sweep_desk.Goals as goal

pub returns : goal.returns
returns g c = record { is_opened = _; old = _; new = _; told_old = _; told_new = _; did = c.sweep_in_file-status.ensures }
