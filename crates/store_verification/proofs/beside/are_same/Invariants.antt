use Rattle.std.proofs.Common.{◌≡◌, ◌<◌, ℕ, get_or}
use Rattle.store_verification.proofs.beside.are_same.Given as goal

abbrev pub invariant-loop-k : goal.invariant-loop-k
invariant-loop-k l = (j : ℕ) → j < l.k → get_or l.some j (record { first = 0; count = 0 }) ≡ get_or l.others j (record { first = 0; count = 0 })
