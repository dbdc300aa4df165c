use Rattle.std.proofs.Common.{◌≡◌, [], All, length}
use Rattle.desk_gallery.proofs.gallery.seat_all.Given as goal

abbrev pub invariant-loop : goal.invariant-loop
invariant-loop g l = (length l.seats.items ≡ l.counter) × All (λ v. v ≡ []) l.seats.items
