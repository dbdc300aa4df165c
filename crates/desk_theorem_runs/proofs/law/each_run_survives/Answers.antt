use Rattle.desk_theorem_runs.proofs.Runs.{survives}
use Rattle.desk_theorem_runs.proofs.law.each_run_survives.Goals as goal

pub returns : goal.returns
returns g c = λ x. survives x
