-- How many districts a plan may have.
use Rattle.std.specs.Prelude.{ℕ, ◌≤◌}

pub record IsCount (n : ℕ) : Type 0 where
  pub some : 1 ≤ n
  pub few : n ≤ 999
