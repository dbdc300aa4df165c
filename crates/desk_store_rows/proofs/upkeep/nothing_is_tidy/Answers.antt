use Rattle.desk_store_rows.proofs.TidyFree.{empty_tidy}
use Rattle.desk_store_rows.proofs.upkeep.nothing_is_tidy.Goals as goal

pub returns : goal.returns
returns c = empty_tidy
