use Rattle.{std.proofs.Common.{◌≤◌, ℕ}, gate_journal.specs.{Store.IsWithin, claim.Writes.writes_of}}
use Rattle.clerk_trials.proofs.stops.commits.first_pages.Given as goal

abbrev pub invariant-loop-p : goal.invariant-loop-p
invariant-loop-p g l = (n : ℕ) → l.count ≤ n → IsWithin (writes_of l.writes) n
