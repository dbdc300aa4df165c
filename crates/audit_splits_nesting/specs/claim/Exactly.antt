-- Lists of the numbers of which something holds.
use Rattle.std.specs.{List.Sorted.IsStrictlyIncreasing, Prelude.{ℕ, List, All, Contains}}

-- the numbers of which this holds, rising: it holds of each that is listed, and each of which it holds is listed
pub record AreExactly (Holds : ℕ → Type 0) (numbers : List ℕ) : Type 0 where
  pub rising : IsStrictlyIncreasing numbers
  pub listed : All Holds numbers
  pub all : (number : ℕ) → Holds number → Contains numbers number
