use Rattle.desk_store_rows.proofs.HolderCounts.{joins_holders}
use Rattle.desk_store_rows.proofs.holders.holders_join.Goals as goal

pub returns : goal.returns
returns c = joins_holders
