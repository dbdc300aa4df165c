use Rattle.desk_store_rows.proofs.ListLaws.{districts_differ}
use Rattle.desk_store_rows.proofs.key_laws.districts_differ.Goals as goal

pub returns : goal.returns
returns c = districts_differ
