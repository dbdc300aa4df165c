use Rattle.desk_store_rows.proofs.RevisionDesk.{before_kept}
use Rattle.desk_store_rows.proofs.upkeep.chunks_are_kept.Goals as goal

pub returns : goal.returns
returns c = before_kept
