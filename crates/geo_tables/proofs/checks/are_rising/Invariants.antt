use Rattle.{std.proofs.Common.{ℕ, ◌+◌, ◌<◌}, desk_model.specs.claim.Geography.id_at}
use Rattle.geo_tables.proofs.checks.are_rising.Given as goal

abbrev pub invariant-loop-k : goal.invariant-loop-k
invariant-loop-k l = (j : ℕ) → j + 1 < l.k → id_at l.blocks j < id_at l.blocks (j + 1)
