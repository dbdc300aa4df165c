-- The rows of a geography: its blocks rising, then its pairs rising.
use Rattle.std.specs.Prelude.{◌+◌, ◌-◌, ℕ, nat_lt, if◌then◌else◌, List, [], ◌∷◌, length, Option, Some, None}
use Rattle.{desk_model.specs.claim.Geography.GeographyModel, desk_store_rows.specs.{Puts.rows_told, claim.{GeographyRows.neighbours_bytes, Puts.Row, Rows.element_row}}}
use Rattle.desk_store_rows.specs.{claim.{Keys.{key_of, block, pair, begun, counters, seal}, Values.{block_bytes, counters_bytes, seal_bytes}}, declared.value.Counters.Counters}

-- the bytes of a row that is there
abbrev pub bytes_in : Option (List ℕ) → List ℕ
bytes_in None = []
bytes_in (Some bytes) = bytes

-- the row of a block and of a pair of neighbours, by its place
abbrev pub block_at : ℕ → GeographyModel → ℕ → Row
block_at load g place = (key_of (block load place), bytes_in (element_row block_bytes g.blocks place))

abbrev pub pair_at : ℕ → GeographyModel → ℕ → Row
pair_at load g place = (key_of (pair load place), bytes_in (element_row neighbours_bytes g.pairs place))

-- the row at a place among all of them
abbrev pub staged_row : ℕ → GeographyModel → ℕ → Row
staged_row load g place = if nat_lt place (length g.blocks) then block_at load g place else pair_at load g (place - length g.blocks)

-- so many rows from a place on
abbrev pub staged_rows : ℕ → GeographyModel → ℕ → ℕ → List Row
staged_rows load g done rows = rows_told (λ k. staged_row load g (done + k)) rows

-- the numbers after one load more
abbrev pub load_taken : Counters → Counters
load_taken next = record { plan = next.plan; chunk = next.chunk; load = next.load + 1 }

-- the rows that begin a load with the next number
abbrev pub begun_rows : Counters → List Row
begun_rows next = (key_of (begun next.load), []) ∷ (key_of counters, counters_bytes (load_taken next)) ∷ []

-- the row that seals one
abbrev pub seal_row : ℕ → GeographyModel → Row
seal_row load g = (key_of seal, seal_bytes (record { load = load; blocks = length g.blocks; pairs = length g.pairs }))
