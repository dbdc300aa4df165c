use Rattle.desk_theorem_runs.proofs.SweptRuns.{survives}
use Rattle.desk_theorem_runs.proofs.swept_law.each_swept_run_survives.Goals as goal

pub returns : goal.returns
returns g c = λ x. survives x
