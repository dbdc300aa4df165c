use Rattle.{std.proofs.Common.{◌≡◌, ◌+◌, sum_by}, http_desk_seats.specs.Seated.{accepted_at, halted_at, seats_at}}
use Rattle.http_desk_seats.proofs.many.gather.Given as goal

abbrev pub invariant-loop-place : goal.invariant-loop-place
invariant-loop-place g l =
    (l.tallies.accepted.parts + sum_by (λ p. seats_at p.guest) l.places.items ≡ l.fn.tallies.accepted.parts + sum_by (λ p. seats_at p.guest) l.fn.places.items)
    × (l.tallies.accepted.amount + sum_by (λ p. accepted_at p.guest) l.places.items ≡ l.fn.tallies.accepted.amount + sum_by (λ p. accepted_at p.guest) l.fn.places.items)
    × (l.tallies.halted.amount + sum_by (λ p. halted_at p.guest) l.places.items ≡ l.fn.tallies.halted.amount + sum_by (λ p. halted_at p.guest) l.fn.places.items)

abbrev pub decreases-loop-place : goal.decreases-loop-place
decreases-loop-place g l = goal.left-loop-place g l
