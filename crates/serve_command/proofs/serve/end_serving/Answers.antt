use Rattle.serve_command.proofs.serve.end_serving.Goals as goal

pub returns-in-Err : goal.returns-in-Err
returns-in-Err g c = rw c.in-Err.is (c.fault_status.ensures, rw c.fault_line.ensures at c.send_line.ensures)
