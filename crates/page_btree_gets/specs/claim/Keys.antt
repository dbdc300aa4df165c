-- Keys between bounds, and the map that a tree stands for.
use Rattle.std.specs.{Ordering.is_gt, Prelude.{◌≡◌, ℕ, List, false, Option, Some, None}, declared.cmp.Ordering.TheVariants.Less}
use Rattle.page_btree_node.specs.claim.Places.{key_cmp}
use Rattle.std.specs.FinMap as map_of

-- keys to values; keys in the order of their bytes, a key before its longer continuations
abbrev pub KeyMap : Type 0
KeyMap = map_of.FinMap key_cmp (List ℕ)

-- below a bound, or below none
abbrev pub IsUnder : List ℕ → Option (List ℕ) → Type 0
IsUnder key None = Unit {0}
IsUnder key (Some high) = key_cmp key high ≡ Less

-- from the lower bound on, and below the upper one
pub record IsBetween (low : List ℕ) (high : Option (List ℕ)) (key : List ℕ) : Type 0 where
  pub from : is_gt (key_cmp low key) ≡ false
  pub under : IsUnder key high

-- the bound parts those of a range: it is above the lower one
pub record Parts (low : List ℕ) (high : Option (List ℕ)) (bound : List ℕ) : Type 0 where
  pub above : key_cmp low bound ≡ Less
  pub under : IsUnder bound high
