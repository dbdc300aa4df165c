use Rattle.std.proofs.Common.{inl, inr, refl}
use Rattle.command_output.proofs.telling.tell.Goals as goal

pub returns-in-Ok : goal.returns-in-Ok
returns-in-Ok g c = inl (c.fault_status.ensures, rw (c.as_bytes.ensures.value, c.in-Ok.ensures) at c.send_line.ensures)

pub returns-in-Err : goal.returns-in-Err
returns-in-Err g c = inr (refl, c.tell_memory.ensures)
