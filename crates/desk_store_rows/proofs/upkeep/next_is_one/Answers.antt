use Rattle.desk_store_rows.proofs.TidyFree.{one_next}
use Rattle.desk_store_rows.proofs.upkeep.next_is_one.Goals as goal

pub returns : goal.returns
returns c = one_next
