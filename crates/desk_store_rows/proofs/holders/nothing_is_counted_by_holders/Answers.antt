use Rattle.desk_store_rows.proofs.HolderCounts.{nothing_counted_by_holders}
use Rattle.desk_store_rows.proofs.holders.nothing_is_counted_by_holders.Goals as goal

pub returns : goal.returns
returns c = nothing_counted_by_holders
