use Rattle.desk_store_rows.proofs.Sharing.{all_held}
use Rattle.desk_store_rows.proofs.forks.chunks_are_held.Goals as goal

pub returns : goal.returns
returns c = all_held
