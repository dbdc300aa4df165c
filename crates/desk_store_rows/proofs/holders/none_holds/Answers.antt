use Rattle.desk_store_rows.proofs.HolderCounts.{none_holds}
use Rattle.desk_store_rows.proofs.holders.none_holds.Goals as goal

pub returns : goal.returns
returns c = none_holds
