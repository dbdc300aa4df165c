-- The rows that name a revision's chunks, and what they say once they are put.
use Rattle.std.proofs.Common.{◌<◌, ◌*◌, ◌^◌, ℕ, List, length, take, drop}
use Rattle.{desk_model.specs.claim.Room.rows_for, desk_store_rows.specs.{Puts.rows_told, claim.{Keys.{key_of, part}, Lists.chunks_bytes, Puts.Row, Rows.{KeyMap, Lacks}}}}

-- a part of a revision, from 0
abbrev pub name_row : ℕ → ℕ → List ℕ → ℕ → Row
name_row plan revision numbers index = (key_of (part plan revision index), chunks_bytes (take 128 (drop (128 * index) numbers)))

abbrev pub name_rows : ℕ → ℕ → List ℕ → List Row
name_rows plan revision numbers = rows_told (name_row plan revision numbers) (rows_for 128 (length numbers))

-- no part of the revision is there
abbrev pub IsFreeRevision : KeyMap → ℕ → ℕ → Type 0
IsFreeRevision m plan revision = (index : ℕ) → index < 2 ^ 8 → Lacks m (part plan revision index)
