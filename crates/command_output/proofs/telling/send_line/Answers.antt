use Rattle.command_output.proofs.telling.send_line.Goals as goal

pub returns : goal.returns
returns g c = (c.send.result, (c.send.ensures.bytes, c.send.ensures.failures))
