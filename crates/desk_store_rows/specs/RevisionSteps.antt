-- The rows that change as one revision of a plan is added.
use Rattle.std.specs.Prelude.{Bool, true, false, ◌≡◌, ◌⊎◌, ◌<◌, ◌≤◌, ◌+◌, ◌*◌, ◌^◌, ℕ, List, [], ◌∷◌, ◌++◌, length, get_or, All, Contains}
use Rattle.desk_store_rows.specs.{ChunkRows.chunk_rows, NameRows.name_rows, Puts.rows_told, Rows.SameTag, Steps.{chunks_more, one_revision_more}, claim.Lists.chunks_bytes}
use Rattle.desk_store_rows.specs.claim.{Holders.{IsHeld, AreTallied}, Keys.{key_of, Fits, counters, holding, holder_count, named, part, version, chunk, in_eight}, Puts.Row}
use Rattle.desk_store_rows.specs.claim.{RevisionRows.HasChunk, Rows.{KeyMap, row_in, Has, part_row}, Tidy.{IsNamedBy, IsPiece, AreRows}, Values.{counters_bytes, plan_bytes}}
use Rattle.desk_store_rows.specs.declared.value.{Counters.Counters, StoredPlan.StoredPlan}

-- so many numbers from the counter on are given to new chunks
abbrev pub IsGiven : Counters → ℕ → ℕ → Type 0
IsGiven next given number = (next.chunk ≤ number) × (number < next.chunk + given)

-- A revision names chunks that a part of its own plan names already, or, the first revision of a fork, of the plan that it comes from,
-- and new ones: each number that is given is named.
pub record AreItsChunks (m : KeyMap) (next : Counters) (given plan : ℕ) (numbers : List ℕ) : Type 0 where
  pub few : length numbers ≤ 128 * 2 ^ 8
  pub own : (number : ℕ) → Contains numbers number → IsNamedBy m plan number ⊎ IsGiven next given number
  pub whole : (number : ℕ) → IsGiven next given number → Contains numbers number

-- The plan's row tells one revision more, and the counters that the numbers were given; the parts of the new revision name its
-- chunks, and chunks are put under numbers that are given, and the plan holds each chunk that it names now, which is
-- counted. All else stays.
pub record AddsRevision (m n : KeyMap) (new : Bool) (next : Counters) (given : ℕ) (name : List ℕ) (p : StoredPlan) (numbers : List ℕ) : Type 0 where
  pub rows : AreRows n
  pub moved : Has n counters (counters_bytes (chunks_more next given))
  pub row : Has n (named name) (plan_bytes (one_revision_more p))
  pub others : (other : List ℕ) → (other ≡ name → ⊥) → row_in n (named other) ≡ row_in m (named other)
  pub marks : SameTag 68 m n
  pub starts : SameTag 76 m n
  pub seals : SameTag 83 m n
  pub loads : SameTag 103 m n
  pub parts : (index : ℕ) → index < 2 ^ 8 → row_in n (part p.number (p.revisions + 1) index) ≡ part_row 128 chunks_bytes numbers index
  pub other_parts : (plan revision index : ℕ) → Fits (part plan revision index)
      → ((plan ≡ p.number) × (revision ≡ p.revisions + 1) → ⊥) → row_in n (part plan revision index) ≡ row_in m (part plan revision index)
  pub pieces : (number piece : ℕ) (value : List ℕ) → Fits (chunk number piece)
      → IsGiven next given number → Has n (chunk number piece) value → IsPiece value
  pub other_chunks : (number piece : ℕ) → Fits (chunk number piece) → (IsGiven next given number → ⊥)
      → row_in n (chunk number piece) ≡ row_in m (chunk number piece)
  pub told : row_in n version ≡ row_in m version
  pub holdings : new ≡ true → (number : ℕ) → Contains numbers number → IsHeld n p.number number
  pub empty : (plan number : ℕ) (value : List ℕ) → Fits (holding plan number) → Has n (holding plan number) value → value ≡ []
  pub other_holdings : (plan number : ℕ) → Fits (holding plan number) → ((plan ≡ p.number) × Contains numbers number → ⊥)
      → row_in n (holding plan number) ≡ row_in m (holding plan number)
  pub counted_by_holders : AreTallied n

-- the rows of new chunks, under rising numbers from the first on
abbrev pub new_chunk_rows : ℕ → List (List ℕ) → List Row
new_chunk_rows first [] = []
new_chunk_rows first (districts ∷ lists) = chunk_rows first districts ++ new_chunk_rows (first + 1) lists

-- the rows by which a plan holds so many new chunks from the first on, and which count it
abbrev pub new_holding : ℕ → ℕ → ℕ → Row
new_holding plan first k = (key_of (holding plan (first + k)), [])

abbrev pub new_holder_count : ℕ → ℕ → Row
new_holder_count first k = (key_of (holder_count (first + k)), in_eight 1)

abbrev pub new_holding_rows : ℕ → ℕ → ℕ → List Row
new_holding_rows plan first given = rows_told (new_holding plan first) given ++ rows_told (new_holder_count first) given

-- so many of its new chunks a plan is told to hold: each in the new version, none in the old one
abbrev pub told_held : Bool → ℕ → ℕ
told_held true given = given
told_held false given = 0

-- the rows of one revision more: its new chunks, those by which the plan holds them, its parts, the plan's row and the counters
abbrev pub rows_of_revision : Bool → Counters → List ℕ → StoredPlan → List (List ℕ) → List ℕ → List Row
rows_of_revision new next name p lists numbers = new_chunk_rows next.chunk lists
    ++ (new_holding_rows p.number next.chunk (told_held new (length lists)) ++ (name_rows p.number (p.revisions + 1) numbers
    ++ (key_of (named name), plan_bytes (one_revision_more p)) ∷ (key_of counters, counters_bytes (chunks_more next (length lists))) ∷ []))

-- the districts of one chunk
pub record IsChunkList (districts : List ℕ) : Type 0 where
  pub some : 0 < length districts
  pub few : length districts ≤ 512 * 2 ^ 16
  pub each : All (λ d. d < 2 ^ 16) districts

-- a chunk of the plan's that is there already
pub record IsKeptChunk (m : KeyMap) (plan number : ℕ) (districts : List ℕ) : Type 0 where
  pub own : IsNamedBy m plan number
  pub there : HasChunk m number districts

-- the chunks of a revision that is there
pub record AreKept (m : KeyMap) (plan : ℕ) (numbers : List ℕ) (counties : List (List ℕ)) : Type 0 where
  pub count : length numbers ≡ length counties
  pub each : (county : ℕ) → county < length counties → IsKeptChunk m plan (get_or numbers county 0) (get_or counties county [])

-- one of those that are put, by its place among them
pub record IsNewChunk (next : Counters) (lists : List (List ℕ)) (number : ℕ) (districts : List ℕ) : Type 0 where
  pub place : ℕ
  pub within : place < length lists
  pub is : number ≡ next.chunk + place
  pub same : get_or lists place [] ≡ districts

-- County by county, a revision has a chunk that its plan named already, or a new one, and each new one serves some county.
pub record IsDrawn (m : KeyMap) (next : Counters) (plan : ℕ) (lists : List (List ℕ)) (numbers : List ℕ) (counties : List (List ℕ)) : Type 0 where
  pub few : length numbers ≤ 128 * 2 ^ 8
  pub count : length numbers ≡ length counties
  pub sound : All IsChunkList lists
  pub each : (county : ℕ) → county < length counties → IsKeptChunk m plan (get_or numbers county 0) (get_or counties county [])
      ⊎ IsNewChunk next lists (get_or numbers county 0) (get_or counties county [])
  pub used : (place : ℕ) → place < length lists → (county : ℕ) × (county < length counties) × (get_or numbers county 0 ≡ next.chunk + place)
