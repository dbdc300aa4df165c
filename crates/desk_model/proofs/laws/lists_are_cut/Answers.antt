use Rattle.desk_model.proofs.Runs.{lists_cut}
use Rattle.desk_model.proofs.laws.lists_are_cut.Goals as goal

pub returns : goal.returns
returns c = lists_cut
