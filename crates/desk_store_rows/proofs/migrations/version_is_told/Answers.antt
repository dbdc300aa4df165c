use Rattle.desk_store_rows.proofs.Migrating.{version_told}
use Rattle.desk_store_rows.proofs.migrations.version_is_told.Goals as goal

pub returns : goal.returns
returns c = version_told
