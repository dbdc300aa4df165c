use Rattle.desk_store_rows.proofs.RowLaws.{keys_differ}
use Rattle.desk_store_rows.proofs.key_laws.keys_differ.Goals as goal

pub returns : goal.returns
returns c = keys_differ
