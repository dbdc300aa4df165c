-- Chunks, each one county's districts in the order of its blocks, and revisions, which name a chunk for each county.
use Rattle.std.specs.Prelude.{◌≡◌, ◌<◌, ◌≤◌, ◌*◌, ◌^◌, ℕ, List, [], length, get_or, All}
use Rattle.desk_store_rows.specs.claim.{Keys.{part, chunk}, Lists.{chunks_bytes, districts_bytes}, Rows.{KeyMap, row_in, part_row}}

-- the number names these districts, in pieces of 512
pub record HasChunk (m : KeyMap) (number : ℕ) (districts : List ℕ) : Type 0 where
  pub number_fits : number < 2 ^ 64
  pub some : 0 < length districts
  pub few : length districts ≤ 512 * 2 ^ 16
  pub each : All (λ d. d < 2 ^ 16) districts
  pub pieces : (index : ℕ) → index < 2 ^ 16 → row_in m (chunk number index) ≡ part_row 512 districts_bytes districts index

-- a revision of a plan, from 1, names these chunks, in parts of 128
pub record NamesChunks (m : KeyMap) (plan revision : ℕ) (numbers : List ℕ) : Type 0 where
  pub few : length numbers ≤ 128 * 2 ^ 8
  pub each : All (λ n. n < 2 ^ 64) numbers
  pub parts : (index : ℕ) → index < 2 ^ 8 → row_in m (part plan revision index) ≡ part_row 128 chunks_bytes numbers index

-- a revision of a plan has these districts, county by county
pub record HasRevision (m : KeyMap) (plan revision : ℕ) (counties : List (List ℕ)) : Type 0 where
  pub numbers : List ℕ
  pub names : NamesChunks m plan revision numbers
  pub count : length numbers ≡ length counties
  pub chunks : (county : ℕ) → county < length counties → HasChunk m (get_or numbers county 0) (get_or counties county [])
