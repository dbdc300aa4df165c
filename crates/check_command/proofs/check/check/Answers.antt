use Rattle.check_command.proofs.check.check.Goals as goal

pub returns : goal.returns
returns g c = let done = c.counts_of-outcome.ensures in (c.counts_of-outcome.result, done, c.end.ensures)
