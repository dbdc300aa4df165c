use Rattle.desk_store_rows.proofs.Drawing.{changes_drawn}
use Rattle.desk_store_rows.proofs.upkeep.changes_are_drawn.Goals as goal

pub returns : goal.returns
returns c = changes_drawn
