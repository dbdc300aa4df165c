use Rattle.desk_store_pages.proofs.DeskLaws.{opens_desks}
use Rattle.desk_store_pages.proofs.laws.stops_leave_desks.Goals as goal

pub returns : goal.returns
returns c = λ was then. opens_desks {was = was} {then = then}
