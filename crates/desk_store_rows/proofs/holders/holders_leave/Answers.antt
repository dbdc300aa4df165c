use Rattle.desk_store_rows.proofs.HolderCounts.{holders_leave}
use Rattle.desk_store_rows.proofs.holders.holders_leave.Goals as goal

pub returns : goal.returns
returns c = holders_leave
