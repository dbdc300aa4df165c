-- What no promise rests on, beside claim/Rows.antt.
use Rattle.std.specs.Prelude.{◌≡◌, ℕ, List, ◌∷◌}
use Rattle.desk_store_rows.specs.claim.Rows.{KeyMap}
use Rattle.std.specs.FinMap as map_of

-- the rows with this tag are the same in both
abbrev pub SameTag : ℕ → KeyMap → KeyMap → Type 0
SameTag tag m n = (rest : List ℕ) → map_of.get n (tag ∷ rest) ≡ map_of.get m (tag ∷ rest)
