use Rattle.store_command.proofs.telling.tell_store.Goals as goal

pub returns : goal.returns
returns g c = (c.store_status.ensures, rw c.store_line.ensures at c.send_line.ensures)
