use Rattle.{std.proofs.Common.{ℕ, ◌+◌, ◌<◌, IsTrue, get_or}, desk_model.specs.{claim.GeographyModels.is_before, declared.geography.Pair.Pair}}
use Rattle.desk_model.proofs.geography.are_rising.Given as goal

abbrev pub invariant-loop-k : goal.invariant-loop-k
invariant-loop-k l = (j : ℕ) (d : Pair) → j + 1 < l.k → IsTrue (is_before (get_or l.pairs j d) (get_or l.pairs (j + 1) d))
