use Rattle.{std.proofs.Common.{◌≡◌, map, drop, fold}, http_desk_connections.specs.claim.Running.joined, http_desk_seats.specs.claim.Streams.total_of}
use Rattle.http_desk_seats.proofs.many.together.Given as goal

abbrev pub invariant-loop-place : goal.invariant-loop-place
invariant-loop-place g l = fold joined l.totals.ran (map (λ p. p.totals.ran) (drop l.place-index l.places)) ≡ total_of (map (λ p. p.totals.ran) l.places)
