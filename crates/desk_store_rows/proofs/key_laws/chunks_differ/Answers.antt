use Rattle.desk_store_rows.proofs.ListLaws.{chunks_differ}
use Rattle.desk_store_rows.proofs.key_laws.chunks_differ.Goals as goal

pub returns : goal.returns
returns c = chunks_differ
