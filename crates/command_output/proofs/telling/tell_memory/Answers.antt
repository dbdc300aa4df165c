use Rattle.command_output.proofs.telling.tell_memory.Goals as goal

pub returns : goal.returns
returns g c = rw c.memory_line_of.ensures at c.send_line.ensures
