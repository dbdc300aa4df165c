-- A list that stands in rows part by part, as it is read.
use Rattle.std.specs.Prelude.{◌≡◌, ◌<◌, ◌-◌, ◌*◌, ℕ, List, ◌++◌, length, min, take, drop, All, Some}
use Rattle.desk_store_rows.specs.claim.{Keys.RowKey, Rows.{KeyMap, row_in}}

-- a place of so many, at which a part of the list begins
pub record BeginsPart (size places count index : ℕ) : Type 0 where
  pub few : index < places
  pub within : size * index < count

-- The rows of so many numbers below a limit, `size` in each but the last: the row at each place has those of its part, and of rows
-- after the last nothing is said.
module _ (size limit : ℕ) (bytes : List ℕ → List ℕ) (row : ℕ → RowKey) (count : ℕ) where
  pub record StandsInParts (m : KeyMap) (xs : List ℕ) : Type 0 where
    pub long : length xs ≡ count
    pub each : All (λ x. x < limit) xs
    pub rows : (index : ℕ) → size * index < count → row_in m (row index) ≡ Some (bytes (take size (drop (size * index) xs)))

  -- one part was read
  pub record AppendsPart (index : ℕ) (m : KeyMap) (before after : List ℕ) : Type 0 where
    pub xs : List ℕ
    pub is : after ≡ before ++ xs
    pub long : length xs ≡ min size (count - size * index)
    pub each : All (λ x. x < limit) xs
    pub stands : row_in m (row index) ≡ Some (bytes xs)

  -- the first so many parts were read
  pub record AppendsPrefix (parts : ℕ) (m : KeyMap) (before after : List ℕ) : Type 0 where
    pub xs : List ℕ
    pub is : after ≡ before ++ xs
    pub long : length xs ≡ min count (size * parts)
    pub each : All (λ x. x < limit) xs
    pub rows : (index : ℕ) → index < parts → row_in m (row index) ≡ Some (bytes (take size (drop (size * index) xs)))

  -- all of them were read
  pub record AppendsAll (m : KeyMap) (before after : List ℕ) : Type 0 where
    pub xs : List ℕ
    pub is : after ≡ before ++ xs
    pub stands : StandsInParts m xs
