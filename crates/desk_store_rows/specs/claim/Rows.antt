-- The rows of a store as a finite map from keys to values.
use Rattle.std.specs.{List.slice_get, Prelude.{◌≡◌, ◌*◌, ℕ, nat_lt, if◌then◌else◌, List, length, take, drop, Option, Some, None, option_map}}
use Rattle.desk_store_rows.specs.claim.{Keys.{RowKey, key_of}, Order.key_cmp}
use Rattle.std.specs.FinMap as map_of

abbrev pub KeyMap : Type 0
KeyMap = map_of.FinMap key_cmp (List ℕ)

-- what stands under a row's key
abbrev pub row_in : KeyMap → RowKey → Option (List ℕ)
row_in m row = map_of.get m (key_of row)

abbrev pub Has : KeyMap → RowKey → List ℕ → Type 0
Has m row value = row_in m row ≡ Some value

abbrev pub Lacks : KeyMap → RowKey → Type 0
Lacks m row = row_in m row ≡ None

-- a list has a row for each element: that of the element at a place
abbrev pub element_row : {X : Type 0} → (X → List ℕ) → List X → ℕ → Option (List ℕ)
element_row bytes xs place = option_map bytes (slice_get xs place)

-- a list has a row for so many elements, the last row perhaps for fewer: that of its part at a place
abbrev pub part_row : ℕ → (List ℕ → List ℕ) → List ℕ → ℕ → Option (List ℕ)
part_row size bytes xs place = if nat_lt (size * place) (length xs) then Some (bytes (take size (drop (size * place) xs))) else None
