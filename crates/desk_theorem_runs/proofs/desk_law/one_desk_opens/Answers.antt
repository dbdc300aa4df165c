use Rattle.desk_theorem_runs.proofs.One.{images_are_one}
use Rattle.desk_theorem_runs.proofs.desk_law.one_desk_opens.Goals as goal

pub returns : goal.returns
returns c = images_are_one c.one_desk.ensures
