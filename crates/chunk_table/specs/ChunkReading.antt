-- What is read of a chunk.
use Rattle.std.specs.Prelude.{◌≡◌, ◌*◌, ◌^◌, ℕ, List, length, take, drop}
use Rattle.{chunk_table.specs.Parts.{AppendsAll, AppendsPart, StandsInParts}, desk_store_rows.specs.claim.{Keys.chunk, Lists.districts_bytes, RevisionRows.HasChunk, Rows.KeyMap}}

-- the number names these districts, and they are so many
pub record IsChunk (number count : ℕ) (m : KeyMap) (districts : List ℕ) : Type 0 where
  pub has : HasChunk m number districts
  pub long : length districts ≡ count

-- the piece with a number among them, of 512 districts or the rest
abbrev pub piece : ℕ → List ℕ → List ℕ
piece index districts = take 512 (drop (512 * index) districts)

-- ---- what was read, whether or not the number names a list
-- these districts stand in the rows of the pieces
abbrev pub HasPieces : ℕ → ℕ → KeyMap → List ℕ → Type 0
HasPieces number count m districts = StandsInParts 512 (2 ^ 16) districts_bytes (chunk number) count m districts

-- and a list has them after what was there
abbrev pub AppendsPieces : ℕ → ℕ → KeyMap → List ℕ → List ℕ → Type 0
AppendsPieces number count m before after = AppendsAll 512 (2 ^ 16) districts_bytes (chunk number) count m before after

-- those of one piece
abbrev pub AppendsPiece : ℕ → ℕ → ℕ → KeyMap → List ℕ → List ℕ → Type 0
AppendsPiece number count index m before after = AppendsPart 512 (2 ^ 16) districts_bytes (chunk number) count index m before after
