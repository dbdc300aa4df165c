-- Rows that are put into a map one after the other.
use Rattle.std.{specs.FinMap.insert, proofs.Common.{ℕ, List, [], ◌∷◌}}
use Rattle.desk_store_rows.specs.claim.Rows.{KeyMap}

-- a key and a value
abbrev pub Row : Type 0
Row = List ℕ × List ℕ

abbrev pub put_rows : KeyMap → List Row → KeyMap
put_rows m [] = m
put_rows m (row ∷ rows) = put_rows (insert m row.0 row.1) rows
