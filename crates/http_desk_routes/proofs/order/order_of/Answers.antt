use Rattle.std.proofs.lemmas.Str.{IsUtf8-from_ascii, IsAscii-take}
use Rattle.http_desk_routes.proofs.order.order_of.Goals as goal

pub unreachable-requires : goal.unreachable-requires
unreachable-requires c = c.in-Err.ensures.cases.0 (rw c.around.ensures.before (IsUtf8-from_ascii _ (IsAscii-take _ _ c.requires.ascii)))
