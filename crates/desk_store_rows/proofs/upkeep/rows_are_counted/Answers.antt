use Rattle.desk_store_rows.proofs.Drawing.{rows_counted}
use Rattle.desk_store_rows.proofs.upkeep.rows_are_counted.Goals as goal

pub returns : goal.returns
returns c = rows_counted
