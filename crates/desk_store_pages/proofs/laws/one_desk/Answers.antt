use Rattle.desk_store_pages.proofs.DeskLaws.{one_desk}
use Rattle.desk_store_pages.proofs.laws.one_desk.Goals as goal

pub returns : goal.returns
returns c = one_desk c.desk_is_one.ensures
