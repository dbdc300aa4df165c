-- What a reader of lines has left.
use Rattle.std.specs.Prelude.{ℕ, List}

-- how many lines were given, and those that are left
pub record LinesLeft : Type 0 where
  pub number : ℕ
  pub left : List (List ℕ)
