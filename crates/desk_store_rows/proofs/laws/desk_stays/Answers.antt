use Rattle.desk_store_rows.proofs.Frames.{desk_stays}
use Rattle.desk_store_rows.proofs.laws.desk_stays.Goals as goal

pub returns : goal.returns
returns c = desk_stays
