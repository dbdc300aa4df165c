use Rattle.std.proofs.Common.{◌≡◌, ◌≢◌, ◌<◌, ℕ, false, get_or}
use Rattle.gate_journal.proofs.writes.is_among.Given as goal

abbrev pub invariant-loop-number : goal.invariant-loop-number
invariant-loop-number l = l.seen ≡ false → (j : ℕ) → j < l.number-index → get_or l.numbers j 0 ≢ l.page
