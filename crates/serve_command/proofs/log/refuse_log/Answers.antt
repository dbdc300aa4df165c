use Rattle.serve_command.proofs.log.refuse_log.Goals as goal

pub returns : goal.returns
returns g c = (c.log_status.ensures, rw c.log_line.ensures at c.send_line.ensures)
