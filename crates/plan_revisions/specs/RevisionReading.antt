-- What is read of a revision.
use Rattle.std.specs.Prelude.{◌≡◌, ◌<◌, ◌*◌, ◌^◌, ℕ, List, [], length, get_or, map, take, drop}
use Rattle.{desk_model.specs.declared.ranges.CountyRange.CountyRange, desk_store_rows.specs.claim.{Keys.part, Lists.chunks_bytes, Rows.KeyMap}}
use Rattle.{desk_store_rows.specs.claim.RevisionRows.{HasChunk, NamesChunks, HasRevision}, plan_revisions_sweeps.specs.chunk_table.Parts.{AppendsAll, AppendsPart, StandsInParts}}

-- the revision names these chunks, and they are so many
pub record AreNames (plan revision count : ℕ) (m : KeyMap) (numbers : List ℕ) : Type 0 where
  pub names : NamesChunks m plan revision numbers
  pub long : length numbers ≡ count

-- those of them in one part
abbrev pub names_in : ℕ → List ℕ → List ℕ
names_in index numbers = take 128 (drop (128 * index) numbers)

-- each county has as many districts as its range says
abbrev pub AreLong : List CountyRange → List (List ℕ) → Type 0
AreLong ranges counties = map length counties ≡ map (λ c. c.count) ranges

-- the numbers name the districts of the counties
pub record AreCounties (numbers : List ℕ) (ranges : List CountyRange) (m : KeyMap) (counties : List (List ℕ)) : Type 0 where
  pub long : AreLong ranges counties
  pub chunks : (county : ℕ) → county < length counties → HasChunk m (get_or numbers county 0) (get_or counties county [])

-- the revision has these districts, county by county
pub record IsRevision (plan revision : ℕ) (ranges : List CountyRange) (m : KeyMap) (counties : List (List ℕ)) : Type 0 where
  pub has : HasRevision m plan revision counties
  pub long : AreLong ranges counties

-- ---- what was read, whether or not the revision names chunks
-- these numbers stand in the rows of its parts
abbrev pub HasParts : ℕ → ℕ → ℕ → KeyMap → List ℕ → Type 0
HasParts plan revision count m numbers = StandsInParts 128 (2 ^ 64) chunks_bytes (part plan revision) count m numbers

-- and a list has them after what was there
abbrev pub AppendsParts : ℕ → ℕ → ℕ → KeyMap → List ℕ → List ℕ → Type 0
AppendsParts plan revision count m before after = AppendsAll 128 (2 ^ 64) chunks_bytes (part plan revision) count m before after

-- those of one part
abbrev pub AppendsNames : ℕ → ℕ → ℕ → ℕ → KeyMap → List ℕ → List ℕ → Type 0
AppendsNames plan revision count index m before after = AppendsPart 128 (2 ^ 64) chunks_bytes (part plan revision) count index m before after
