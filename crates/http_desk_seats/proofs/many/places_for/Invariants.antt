use Rattle.{std.proofs.Common.{◌≡◌, ◌+◌, ◌++◌, length, map, reverse}, http_desk_seats.specs.Streams.places_of}
use Rattle.http_desk_seats.proofs.many.places_for.Given as goal

abbrev pub invariant-loop-visitor : goal.invariant-loop-visitor
invariant-loop-visitor g l =
    (map (λ p. (p.worker, p.guest)) l.places.items ++ places_of (reverse l.visitors.items) ≡ places_of (reverse l.fn.visitors.items))
    × (l.tallies.accepted.parts + length l.fn.visitors.items ≡ l.fn.tallies.accepted.parts + length l.visitors.items)
    × (l.tallies.accepted.amount ≡ 0) × (l.tallies.halted.amount ≡ 0)

abbrev pub decreases-loop-visitor : goal.decreases-loop-visitor
decreases-loop-visitor g l = length l.visitors.items
