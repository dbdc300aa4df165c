use Rattle.desk_store_rows.proofs.Migrating.{named_held}
use Rattle.desk_store_rows.proofs.migrations.named_is_held.Goals as goal

pub returns : goal.returns
returns c = named_held
