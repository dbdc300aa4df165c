-- Which chunks the plans of a map hold, of those that parts of their revisions name.
use Rattle.std.specs.Prelude.{◌≡◌, ℕ, List, [], ◌∷◌, length}
use Rattle.{desk_store_opening.specs.tidy.claim.Rows.IsFrom, desk_store_rows.specs.claim.{Holders.IsHeld, Keys.{key_of, Fits, holding, part}, Rows.{KeyMap, Lacks}, Shares.hold}}
use Rattle.desk_store_rows.specs.claim.Tidy.{IsNamedBy}

-- Each chunk that a part of a plan's revisions names is held by the plan. This is said also of plans that were taken away.
abbrev pub AllAreHeld : KeyMap → Type 0
AllAreHeld m = (plan number : ℕ) → IsNamedBy m plan number → IsHeld m plan number

-- the key of the part that names it
abbrev pub part_key : (m : KeyMap) (plan number : ℕ) → IsNamedBy m plan number → List ℕ
part_key m plan number named = key_of (part plan named.revision named.index)

-- so it is of the parts whose keys are below this one
abbrev pub AreHeldTo : List ℕ → KeyMap → Type 0
AreHeldTo from m = (plan number : ℕ) (named : IsNamedBy m plan number) → (IsFrom from (part_key m plan number named) → ⊥) → IsHeld m plan number

-- a part of the plan's revisions names the chunk, and the plan doesn't hold it
pub record IsUnheld (m : KeyMap) (plan number : ℕ) : Type 0 where
  pub named : IsNamedBy m plan number
  pub fits : Fits (holding plan number)
  pub lacks : Lacks m (holding plan number)

-- plans come to hold chunks, one pair of a plan and a chunk after the other
abbrev pub hold_pairs : KeyMap → List (ℕ × ℕ) → KeyMap
hold_pairs m [] = m
hold_pairs m (pair ∷ pairs) = hold_pairs (hold m pair.0 pair.1) pairs

abbrev pub AreUnheld : KeyMap → List (ℕ × ℕ) → Type 0
AreUnheld m [] = Unit {0}
AreUnheld m (pair ∷ pairs) = IsUnheld m pair.0 pair.1 × AreUnheld (hold m pair.0 pair.1) pairs

-- So many pairs came to be held, each of a plan and a chunk that it names and didn't hold: two rows each, and no other row changed.
pub record IsHeldBy (count : ℕ) (m n : KeyMap) : Type 0 where
  pub pairs : List (ℕ × ℕ)
  pub count_is : length pairs ≡ count
  pub unheld : AreUnheld m pairs
  pub rest : n ≡ hold_pairs m pairs
