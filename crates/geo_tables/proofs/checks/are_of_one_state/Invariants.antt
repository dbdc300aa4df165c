use Rattle.{std.proofs.Common.{ℕ, ◌≡◌, ◌<◌}, desk_model.specs.claim.{Block.state_of, Geography.id_at}}
use Rattle.geo_tables.proofs.checks.are_of_one_state.Given as goal

abbrev pub invariant-loop-k : goal.invariant-loop-k
invariant-loop-k l = (j : ℕ) → j < l.k → state_of (id_at l.blocks j) ≡ state_of (id_at l.blocks 0)
