use Rattle.std.proofs.Common.{◌≡◌, All, take}
use mathlib.Core.List.{IsPrefix}
use Rattle.desk_theorem.proofs.office.know_all.Given as goal

abbrev pub invariant-loop-visitor : goal.invariant-loop-visitor
invariant-loop-visitor g l = All (λ v. IsPrefix v l.front.shown) (take l.visitor-index l.visitors) × (l.front ≡ l.fn.front)
