use Rattle.desk_store_rows.proofs.HolderCounts.{holder_counts_stay}
use Rattle.desk_store_rows.proofs.holders.holder_counts_stay.Goals as goal

pub returns : goal.returns
returns c = holder_counts_stay
