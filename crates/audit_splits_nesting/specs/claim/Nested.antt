-- Districts that lie within one district of a companion plan (Iowa Code 42.4(6)). Both plans have the district of each block beside it,
-- where 0 is none.
use Rattle.std.specs.Prelude.{◌≡◌, ℕ, ◌<◌, ◌≤◌, List, length, get_or}

-- the plan gives the block to the district
pub record IsIn (plan : List ℕ) (d place : ℕ) : Type 0 where
  pub within : place < length plan
  pub given : get_or plan place 0 ≡ d

-- there is one district, not 0, that the companion gives to every block of the district
pub record IsNested (plan companion : List ℕ) (d : ℕ) : Type 0 where
  pub over : ℕ
  pub assigned : 1 ≤ over
  pub each : (place : ℕ) → IsIn plan d place → get_or companion place 0 ≡ over

-- one of the districts 1 to n that isn't nested
pub record BreaksNesting (n : ℕ) (plan companion : List ℕ) (d : ℕ) : Type 0 where
  pub from_first : 1 ≤ d
  pub to_last : d ≤ n
  pub broken : ¬ IsNested plan companion d
