-- Some of a plan's districts, in parts of sixteen: part k, from 0, has the districts from 16 * k + 1 to 16 * k + 16, or to the last.
use Rattle.std.specs.Prelude.{◌≡◌, ℕ, ◌-◌, ◌/◌, ◌≤◌, Bool, false, ◌&&◌, nat_lt, if◌then◌else◌, List, length, get_or, map}
use Rattle.{audit_contiguity.specs.{Rooted.AreRooted, declared.lowest.Lowest.Lowest}, desk_model.specs.claim.Geography.GeographyModel}

-- the district is of one of the own parts
abbrev pub is_own : List Bool → ℕ → Bool
is_own own d = nat_lt 0 d && get_or own ((d - 1) / 16) false

-- the district, where it is of an own part, else 0
abbrev pub kept : List Bool → ℕ → ℕ
kept own d = if is_own own d then d else 0

-- a plan of count districts over a geography, and which of its parts are own
pub record Shown : Type 0 where
  pub geography : GeographyModel
  pub plan : List ℕ
  pub count : ℕ
  pub own : List Bool

-- the trees and their lowest roots are those of the plan with the districts of the own parts alone
pub record AreTrees (s : Shown) (plan parents : List ℕ) (lowest : List Lowest) : Type 0 where
  pub beside : length s.plan ≡ length s.geography.blocks
  pub few : s.count ≤ 999
  pub plan_is : plan ≡ map (kept s.own) s.plan
  pub rooted : AreRooted s.geography plan 1 s.count parents lowest
