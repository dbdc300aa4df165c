use Rattle.desk_store_rows.proofs.OneDesk.{one_desk}
use Rattle.desk_store_rows.proofs.laws.desk_is_one.Goals as goal

pub returns : goal.returns
returns c = one_desk c.lists_are_cut.ensures
