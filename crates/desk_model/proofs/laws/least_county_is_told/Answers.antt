use Rattle.desk_model.proofs.Parts.{least_is_told}
use Rattle.desk_model.proofs.laws.least_county_is_told.Goals as goal

pub returns : goal.returns
returns c = least_is_told
