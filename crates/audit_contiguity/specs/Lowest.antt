-- The two lowest roots of a district.
use Rattle.std.specs.Prelude.{◌≡◌, ℕ, ◌+◌, ◌<◌, ◌≤◌, ◌^◌, ◌⊎◌, List, length, get_or}
use Rattle.audit_contiguity.specs.{claim.Paths.IsIn, declared.lowest.Lowest.{Lowest, TheVariants.{Zero, One, Two}}}

-- each of the plan's blocks has a parent beside it, and a number of 32 bits can tell it
pub record AreBeside (parents plan : List ℕ) : Type 0 where
  pub long : length parents ≡ length plan
  pub few : length plan < 2 ^ 32

-- the roots once the next is noted
abbrev pub noted : Lowest → ℕ → Lowest
noted Zero place = One place
noted (One a) place = Two a place
noted (Two a b) place = Two a b

-- one of the first blocks is a root of the district
pub record IsRoot (parents plan : List ℕ) (count d a : ℕ) : Type 0 where
  pub early : a < count
  pub lies : IsIn plan d a
  pub own : get_or parents a 0 ≡ a

-- what is noted of a district's roots among the first blocks
abbrev pub AreLowest : List ℕ → List ℕ → ℕ → ℕ → Lowest → Type 0
AreLowest parents plan count d Zero = (x : ℕ) → ¬ IsRoot parents plan count d x
AreLowest parents plan count d (One a) = IsRoot parents plan count d a × ((x : ℕ) → IsRoot parents plan count d x → x ≡ a)
AreLowest parents plan count d (Two a b) = IsRoot parents plan count d a × IsRoot parents plan count d b × (a < b)
    × ((x : ℕ) → IsRoot parents plan count d x → (x ≡ a) ⊎ (b ≤ x))

-- the same of each district from first on
pub record AreAllLowest (parents plan : List ℕ) (count first wide : ℕ) (lowest : List Lowest) : Type 0 where
  pub long : length lowest ≡ wide
  pub each : (k : ℕ) → k < wide → AreLowest parents plan count (first + k) (get_or lowest k Zero)
