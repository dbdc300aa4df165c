use Rattle.desk_store_rows.proofs.Numbers.{numbers_decide}
use Rattle.desk_store_rows.proofs.key_laws.numbers_decide.Goals as goal

pub returns : goal.returns
returns c = numbers_decide
