use Rattle.{std.proofs.Common.{◌≡◌, take}, desk_store_lists.specs.Pieces.joined}
use Rattle.desk_store_lists.proofs.districts.Districts.to_vec.Given as goal

abbrev pub invariant-loop-piece : goal.invariant-loop-piece
invariant-loop-piece l = l.list.items ≡ joined (take l.piece-index l.piece-items)
