use Rattle.desk_store_rows.proofs.Migrating.{new_tidy}
use Rattle.desk_store_rows.proofs.migrations.new_is_tidy.Goals as goal

pub returns : goal.returns
returns c = new_tidy
