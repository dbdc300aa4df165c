-- What no promise rests on, beside claim/Puts.antt.
use Rattle.std.proofs.Common.{ℕ, zero, suc, List, [], ◌∷◌, ◌++◌}
use Rattle.desk_store_rows.specs.claim.Puts.{Row}

-- the first so many rows of those that a place tells
abbrev pub rows_told : (ℕ → Row) → ℕ → List Row
rows_told row zero = []
rows_told row (suc count) = rows_told row count ++ row count ∷ []
