use Rattle.{std.proofs.Common.{◌≡◌, take}, desk_store_lists.specs.Pieces.{joined, AreFull}}
use Rattle.desk_store_lists.proofs.districts.Districts.share.Given as goal

abbrev pub invariant-loop-place : goal.invariant-loop-place
invariant-loop-place l = record { are_full : AreFull l.full.items; same : joined l.full.items ≡ joined (take l.place l.pieces) }
