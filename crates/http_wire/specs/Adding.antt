-- What is put after a text.
use Rattle.std.specs.Prelude.{◌≡◌, ◌≤◌, ◌+◌, ℕ, List, ◌++◌, length}

-- words stand after it now, which are so many bytes at most
pub record Adds (most : ℕ) (words old new : List ℕ) : Type 0 where
  pub is : new ≡ old ++ words
  pub few : length new ≤ length old + most
