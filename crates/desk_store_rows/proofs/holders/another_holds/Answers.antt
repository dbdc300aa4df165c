use Rattle.desk_store_rows.proofs.HolderCounts.{another_holds}
use Rattle.desk_store_rows.proofs.holders.another_holds.Goals as goal

pub returns : goal.returns
returns c = another_holds
