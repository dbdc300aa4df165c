use Rattle.desk_theorem_runs.proofs.Runs.{survives}
use Rattle.desk_theorem_runs.proofs.law.runs_survive.Goals as goal

pub returns : goal.returns
returns g c = survives c.args.clerk.now
