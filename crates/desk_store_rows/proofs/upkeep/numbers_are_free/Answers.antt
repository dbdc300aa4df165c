use Rattle.desk_store_rows.proofs.TidyFree.{numbers_free}
use Rattle.desk_store_rows.proofs.upkeep.numbers_are_free.Goals as goal

pub returns : goal.returns
returns c = numbers_free
