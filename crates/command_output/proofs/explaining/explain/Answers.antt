use Rattle.std.proofs.Common.{inl}
use Rattle.command_output.proofs.explaining.explain.Goals as goal

pub returns-in-Ok : goal.returns-in-Ok
returns-in-Ok g c = inl (rw (c.as_slice.ensures.value, c.in-Ok.ensures) at c.print.ensures)
