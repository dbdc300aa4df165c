use Rattle.inspect_command.proofs.verify.end_verify.Goals as goal

pub returns-in-Ok : goal.returns-in-Ok
returns-in-Ok g c = rw c.in-Ok.is (rw (← c.as_slice.ensures.value) c.print.ensures)
