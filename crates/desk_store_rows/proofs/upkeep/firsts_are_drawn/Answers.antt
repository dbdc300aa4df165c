use Rattle.desk_store_rows.proofs.Drawing.{firsts_drawn}
use Rattle.desk_store_rows.proofs.upkeep.firsts_are_drawn.Goals as goal

pub returns : goal.returns
returns c = firsts_drawn
