-- Which plans hold a chunk, and how many they are.
use Rattle.std.specs.Prelude.{◌≡◌, ◌<◌, ◌+◌, ◌^◌, ℕ, zero, suc, List, [], ◌∷◌, Option, Some, None}
use Rattle.desk_store_rows.specs.claim.{Keys.{key_of, holding, holder_count, in_eight}, Puts.Row, Rows.{KeyMap, row_in, Has}}

-- the plan holds the chunk
abbrev pub IsHeld : KeyMap → ℕ → ℕ → Type 0
IsHeld m plan number = Has m (holding plan number) []

-- So many plans hold the chunk: they are counted off, each once.
pub record AreHolders (m : KeyMap) (number count : ℕ) : Type 0 where
  pub plan_at : ℕ → ℕ
  pub each : (place : ℕ) → place < count → (plan_at place < 2 ^ 64) × IsHeld m (plan_at place) number
  pub all : (plan : ℕ) → plan < 2 ^ 64 → IsHeld m plan number → (place : ℕ) × (place < count) × (plan_at place ≡ plan)
  pub apart : (a b : ℕ) → a < count → b < count → plan_at a ≡ plan_at b → a ≡ b

-- the row of a number of plans: none for none
abbrev pub holder_count_row : ℕ → Option (List ℕ)
holder_count_row zero = None
holder_count_row (suc more) = Some (in_eight (more + 1))

-- the chunk's row counts the plans that hold it
pub record IsTallied (m : KeyMap) (number : ℕ) : Type 0 where
  pub count : ℕ
  pub fits : count < 2 ^ 64
  pub row : row_in m (holder_count number) ≡ holder_count_row count
  pub holders : AreHolders m number count

abbrev pub AreTallied : KeyMap → Type 0
AreTallied m = (number : ℕ) → number < 2 ^ 64 → IsTallied m number

-- the rows by which a plan comes to hold a chunk that so many hold already
abbrev pub holding_rows : ℕ → ℕ → ℕ → List Row
holding_rows plan number count = (key_of (holding plan number), []) ∷ (key_of (holder_count number), in_eight (count + 1)) ∷ []
