use Rattle.desk_store_rows.proofs.NameRows.{numbers_named}
use Rattle.desk_store_rows.proofs.upkeep.numbers_are_named.Goals as goal

pub returns : goal.returns
returns c = numbers_named
