use Rattle.desk_theorem_lives.proofs.Bridging.{run_lived}
use Rattle.desk_theorem_lives.proofs.desk_law.runs_are_lives.Goals as goal

pub returns : goal.returns
returns g c = λ calls y run. run_lived c.args.clerk.now calls y run
