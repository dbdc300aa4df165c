use Rattle.desk_store_rows.proofs.HolderCounts.{held_counted_by_holders}
use Rattle.desk_store_rows.proofs.holders.held_is_counted_by_holders.Goals as goal

pub returns : goal.returns
returns c = held_counted_by_holders
