-- The rows of a chunk, and what they say once they are put.
use Rattle.std.proofs.Common.{◌<◌, ◌*◌, ◌^◌, ℕ, List, length, take, drop}
use Rattle.{desk_model.specs.claim.Room.rows_for, desk_store_rows.specs.{Puts.rows_told, claim.{Keys.{key_of, chunk}, Lists.districts_bytes, Puts.Row, Rows.{KeyMap, Lacks}}}}

-- a piece of a chunk, from 0
abbrev pub piece_row : ℕ → List ℕ → ℕ → Row
piece_row number districts index = (key_of (chunk number index), districts_bytes (take 512 (drop (512 * index) districts)))

abbrev pub chunk_rows : ℕ → List ℕ → List Row
chunk_rows number districts = rows_told (piece_row number districts) (rows_for 512 (length districts))

-- no piece of the number is there
abbrev pub IsFreeChunk : KeyMap → ℕ → Type 0
IsFreeChunk m number = (index : ℕ) → index < 2 ^ 16 → Lacks m (chunk number index)
