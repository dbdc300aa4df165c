use Rattle.std.proofs.Common.{Ok, Err, refl}
use Rattle.command_output.proofs.telling.print.Goals as goal

pub returns-in-Ok : goal.returns-in-Ok
returns-in-Ok g c = (Ok tt, (c.in-Ok.ensures.bytes, c.in-Ok.ensures.failures), (refl, refl))

pub returns-in-Err : goal.returns-in-Err
returns-in-Err g c = (Err _, (c.in-Err.ensures.bytes, c.in-Err.ensures.failures), (refl, c.send_line.ensures))
