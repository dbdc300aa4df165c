use Rattle.std.proofs.Common.{◌≡◌, All, IfSome, take}
use mathlib.Core.List.{IsPrefix}
use Rattle.http_desk_seats.proofs.many.know_all.Given as goal

abbrev pub invariant-loop-place : goal.invariant-loop-place
invariant-loop-place g l = All (λ p. IfSome p.guest (λ v. IsPrefix v.heard l.front.shown)) (take l.place-index l.places) × (l.front ≡ l.fn.front)
