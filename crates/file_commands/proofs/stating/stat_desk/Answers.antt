use Rattle.file_commands.proofs.stating.stat_desk.Goals as goal

pub returns : goal.returns
returns g c = (_, record { is_opened = _; old = _; new = _; told_old = _; told_new = _; did = c.stat_in_file-status.ensures })
