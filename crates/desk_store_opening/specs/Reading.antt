-- What is read back of a desk.
use Rattle.std.specs.Prelude.{◌≡◌, ◌⊎◌, ◌≤◌, ◌<◌, ◌+◌, ℕ, List, [], length, take, drop, get_or, All, IfSome, Result}
use Rattle.desk_model.specs.{Ranges.ranges_of, claim.{Desk.Plan, Geography.GeographyModel, Ranges.cut, Sizes.most_districts, Subject.revision_at}}
use Rattle.{desk_model.specs.declared.ranges.CountyRange.CountyRange, desk_store_catalogue.specs.desk_store_lists.Laid.with_at, desk_store_pages.specs.Looking.{Gathers, Says}}
use Rattle.{desk_store_pages.specs.claim.Desks.AreWithin, desk_store_rows.specs.{Changes.with_revision, claim.{DeskRows.HasPlan, RevisionRows.{HasChunk, HasRevision}}}}
use Rattle.{desk_store_rows.specs.{claim.Rows.KeyMap, declared.value.StoredPlan.StoredPlan}, page_btree.specs.gets.declared.error.TreeError.TreeError}
use Rattle.{page_store.specs.declared.{pages.Pages.Pages, txn.Txn.Txn}, plan_revisions.specs.{RevisionReading.HasParts, chunk_table.ChunkReading.{HasPieces, IsChunk}}}
use Rattle.sector_device.specs.declared.SectorDevice.{Ghosts}

-- `reads` is so of what was read; and where a map says a value, it is what `told` makes of that
pub record IsTold {X V : Type 0} (reads : KeyMap → V → Type 0) (says : KeyMap → X → Type 0) (told : X → V) (m : KeyMap) (value : V) : Type 0 where
  pub there : reads m value
  pub read : (x : X) → says m x → value ≡ told x

-- that was read, or it is told why not
abbrev pub Reads : {D X V : Type 0} {g : Ghosts D} → (KeyMap → V → Type 0) → (KeyMap → X → Type 0) → (X → V) → Txn → Pages D g → Pages D g → Result V TreeError → Type 0
Reads reads says told t old new result = Gathers (IsTold reads says told) (Says says) t old new result

-- a revision of a plan has a district for each block
pub record IsOfBlocks (g : GeographyModel) (plan revision : ℕ) (m : KeyMap) (districts : List ℕ) : Type 0 where
  pub has : HasRevision m plan revision (cut g districts)
  pub whole : length districts ≡ length g.blocks

-- a number names the districts of one county, which has so many blocks and none of them in a district above n
pub record IsChunkWithin (n number count : ℕ) (m : KeyMap) (districts : List ℕ) : Type 0 where
  pub is : IsChunk number count m districts
  pub within : AreWithin n districts

-- ---- a revision beside the one before it
-- the numbers name what the list has at the places of the first counties
abbrev pub AreKnown : List ℕ → List ℕ → List CountyRange → KeyMap → Type 0
AreKnown names districts ranges m = (county : ℕ) (c : CountyRange) → county < length names → county < length ranges
    → HasChunk m (get_or names county 0) (take (get_or ranges county c).count (drop (get_or ranges county c).first districts))

-- a revision of a plan has a district for each block, none above n, and the numbers of the one before name its districts
pub record IsNext (g : GeographyModel) (n plan revision : ℕ) (last before : List ℕ) (m : KeyMap) (districts : List ℕ) : Type 0 where
  pub is : IsOfBlocks g plan revision m districts
  pub within : AreWithin n districts
  pub known : AreKnown last before (ranges_of g) m

-- where that was so, these numbers name these districts
abbrev pub BecomesKnown : GeographyModel → ℕ → ℕ → ℕ → List ℕ → List ℕ → List ℕ → KeyMap → List ℕ → Type 0
BecomesKnown g n plan revision last before names m districts = (all : List ℕ) → IsNext g n plan revision last before m all → AreKnown names districts (ranges_of g) m

-- the numbers name the districts of a revision, none of which is above n, and those of the one before its districts
pub record AreNamed (n : ℕ) (ranges : List CountyRange) (names last before : List ℕ) (m : KeyMap) (districts : List ℕ) : Type 0 where
  pub long : length districts ≡ length before
  pub within : AreWithin n districts
  pub named : AreKnown names districts ranges m
  pub known : AreKnown last before ranges m

-- the counties of a geography that has so many blocks
pub record AreCountiesOf (ranges : List CountyRange) (count : ℕ) : Type 0 where
  pub the_geography : GeographyModel
  pub are : ranges ≡ ranges_of the_geography
  pub blocks : count ≡ length the_geography.blocks

-- a number names the districts of one county, and that of the revision before, if it has one, those that a list has at its place
pub record IsCounty (n number : ℕ) (c : CountyRange) (last : List ℕ) (county : ℕ) (before : List ℕ) (m : KeyMap) (districts : List ℕ)
    : Type 0 where
  pub is : IsChunkWithin n number c.count m districts
  pub known : county < length last → HasChunk m (get_or last county 0) (take c.count (drop c.first before))

-- no revision of the plan has a block in a district above its last
abbrev pub AreAllWithin : Plan → Type 0
AreAllWithin p = All (AreWithin p.n) p.revisions

-- ---- what was read of rows, whether or not they are a desk's
abbrev pub no_cut : CountyRange
no_cut = record { first = 0; count = 0 }

-- a county's districts among those of all blocks
abbrev pub part_of : CountyRange → List ℕ → List ℕ
part_of c districts = take c.count (drop c.first districts)

-- the rows of the chunks with these numbers have what the list has at the places of the first counties
abbrev pub AreChunksRead : List ℕ → List ℕ → List CountyRange → KeyMap → Type 0
AreChunksRead names districts ranges m = (county : ℕ) → county < length names → county < length ranges
    → HasPieces (get_or names county 0) (get_or ranges county no_cut).count m (part_of (get_or ranges county no_cut) districts)

-- these districts with what the rows of a chunk have at a county's place
pub record IsLaid (number : ℕ) (c : CountyRange) (before : List ℕ) (m : KeyMap) (all : List ℕ) : Type 0 where
  pub chunk : List ℕ
  pub pieces : HasPieces number c.count m chunk
  pub is : all ≡ with_at c.first chunk before

-- or the revision before names that chunk for the county too, and they stay
abbrev pub IsCountyRead : ℕ → CountyRange → List ℕ → ℕ → List ℕ → KeyMap → List ℕ → Type 0
IsCountyRead number c last county before m all =
    ((county < length last) × (get_or last county 0 ≡ number) × (all ≡ before)) ⊎ IsLaid number c before m all

-- rows have the numbers of a revision's chunks; and where those of the revision before name its districts, these name this one's
pub record IsRevisionRead (plan revision : ℕ) (ranges : List CountyRange) (last before names : List ℕ) (m : KeyMap) (all : List ℕ) : Type 0 where
  pub parts : HasParts plan revision (length ranges) m names
  pub read : AreChunksRead last before ranges m → AreChunksRead names all ranges m

-- a revision of a plan is what the rows of its numbers and of their chunks say
pub record IsRevisionShown (plan revision : ℕ) (ranges : List CountyRange) (m : KeyMap) (districts : List ℕ) : Type 0 where
  pub numbers : List ℕ
  pub parts : HasParts plan revision (length ranges) m numbers
  pub chunks : AreChunksRead numbers districts ranges m

-- so is each revision of a plan, and no block of them is in a district above the plan's last
pub record AreRevisionsShown (number : ℕ) (ranges : List CountyRange) (m : KeyMap) (p : Plan) : Type 0 where
  pub within : AreAllWithin p
  pub read : (k : ℕ) → k < length p.revisions → IsRevisionShown number (k + 1) ranges m (get_or p.revisions k [])

-- ---- a plan's last revision
-- these are its districts; any are, where the plan has no revision
abbrev pub IsLast : Plan → List ℕ → Type 0
IsLast p districts = IfSome (revision_at p (length p.revisions)) (λ last. districts ≡ last)

-- the numbers name its districts
abbrev pub NamesLast : GeographyModel → List ℕ → Plan → KeyMap → Type 0
NamesLast g last p m = (before : List ℕ) → IsLast p before → AreKnown last before (ranges_of g) m

-- a revision of a plan has a district for each block, each one of the plan's, and the numbers name those of the plan's last one
pub record IsAfter (g : GeographyModel) (plan revision : ℕ) (last : List ℕ) (p : Plan) (m : KeyMap) (districts : List ℕ) : Type 0 where
  pub is : IsOfBlocks g plan revision m districts
  pub within : AreWithin p.n districts
  pub known : NamesLast g last p m

-- where that was so, these numbers name the districts of the last one of this plan
abbrev pub BecomesLast : GeographyModel → ℕ → ℕ → List ℕ → Plan → List ℕ → KeyMap → Plan → Type 0
BecomesLast g plan revision last p names m next = (all : List ℕ) → IsAfter g plan revision last p m all → NamesLast g names next m

-- each revision of the plan has a district for each block
abbrev pub IsWhole : GeographyModel → Plan → Type 0
IsWhole g p = All (λ districts. length districts ≡ length g.blocks) p.revisions

-- the rows of the chunks with these numbers have the districts of the plan's last revision
abbrev pub LastIsRead : List ℕ → Plan → List CountyRange → KeyMap → Type 0
LastIsRead last p ranges m = (before : List ℕ) → IsLast p before → AreChunksRead last before ranges m

-- the plan got a revision that was read so
pub record IsNextRead (plan revision : ℕ) (ranges : List CountyRange) (last : List ℕ) (p : Plan) (names : List ℕ) (m : KeyMap) (next : Plan) : Type 0 where
  pub districts : List ℕ
  pub is : next ≡ with_revision p districts
  pub parts : HasParts plan revision (length ranges) m names
  pub read : LastIsRead last p ranges m → AreChunksRead names districts ranges m

-- the plan stands under the name with this row, and its size is one that plans may have
pub record IsPlanRow (g : GeographyModel) (name : List ℕ) (row : StoredPlan) (m : KeyMap) (p : Plan) : Type 0 where
  pub has : HasPlan m g name row.number p
  pub kind : row.kind ≡ p.kind
  pub districts : row.districts ≡ p.n
  pub revisions : row.revisions ≡ length p.revisions
  pub some : 1 ≤ p.n
  pub few : p.n ≤ most_districts p.kind
  pub within : AreAllWithin p
