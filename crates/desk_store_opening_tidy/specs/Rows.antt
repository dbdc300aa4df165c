-- What no promise rests on, beside claim/Rows.antt.
use Rattle.std.specs.{FinMap.{entries, get}, List.starts_with, Prelude.{◌≡◌, ◌⊎◌, ◌<◌, ◌^◌, ℕ, List, [], ◌∷◌, ◌++◌, length, Option, None, Bool, true, false, Some, nat_eq}}
use Rattle.{btree_scan.specs.declared.rows.Row.Row, desk_store_opening_tidy.specs.claim.Rows.IsFrom, desk_store_pages.specs.Reading.StandsAs}
use Rattle.desk_store_rows.specs.{Keys.{load_prefix, chunks_prefix}, claim.Keys.{RowKey, key_of, Fits, seal, block, pair, blocks_prefix, pairs_prefix, chunk_prefix}}
use Rattle.desk_store_rows.specs.{claim.{Rows.{KeyMap, Has}, Tidy.{AreOwned, AreRows, IsLoad}, Values.seal_bytes}, declared.value.SealRow.SealRow}
use Rattle.page_btree.specs.node.{Places.entries_from, claim.Entries.Entry}

-- a key after those of the seal and of the version: the rows of geographies and of chunks' pieces alone stand there
pub record IsPast (key : List ℕ) : Type 0 where
  pub tag : ℕ
  pub rest : List ℕ
  pub is : key ≡ tag ∷ rest
  pub past : 86 < tag

-- the key is that of a row
pub record IsRow (key : List ℕ) : Type 0 where
  pub row : RowKey
  pub fits : Fits row
  pub is : key ≡ key_of row

-- each key up to that of the version is that of a row
abbrev pub AreRowsToVersion : KeyMap → Type 0
AreRowsToVersion m = (key value : List ℕ) → get m key ≡ Some value → (IsPast key → ⊥) → IsRow key

-- the row is the first one whose key isn't below this one, or there is none
abbrev pub IsFirst : Bool → List ℕ → Row → KeyMap → Type 0
IsFirst true key row m = (more : List Entry) × (entries_from key (entries m) ≡ (row.key, row.value) ∷ more)
IsFirst false key row m = entries_from key (entries m) ≡ []

-- no key from one on begins with a prefix
abbrev pub NoneFrom : List ℕ → List ℕ → KeyMap → Type 0
NoneFrom key prefix m = (other value : List ℕ) → get m other ≡ Some value → IsFrom key other → starts_with nat_eq other prefix ≡ true → ⊥

-- no key is that of a chunk's piece with the next number or a later one, nor after these
abbrev pub HasChunksBelow : ℕ → KeyMap → Type 0
HasChunksBelow next m = NoneFrom (chunk_prefix next) [] m

-- the sealed load has no block and no pair of neighbours after those that the seal counts
pub record IsSealCounted (m : KeyMap) (sealed : SealRow) : Type 0 where
  pub blocks : NoneFrom (key_of (block sealed.load sealed.blocks)) (blocks_prefix sealed.load) m
  pub pairs : NoneFrom (key_of (pair sealed.load sealed.pairs)) (pairs_prefix sealed.load) m

abbrev pub AreSealCounted : KeyMap → Type 0
AreSealCounted m = (sealed : SealRow) → sealed.load < 2 ^ 64 → sealed.blocks < 2 ^ 32 → sealed.pairs < 2 ^ 32
    → Has m seal (seal_bytes sealed) → IsSealCounted m sealed

-- a key is one of a load that is sealed, or was begun
pub record IsOfLoad (m : KeyMap) (key : List ℕ) : Type 0 where
  pub load : ℕ
  pub fits : load < 2 ^ 64
  pub is : IsLoad m load
  pub under : starts_with nat_eq key (load_prefix load) ≡ true

-- the byte of a kind of rows of loads: blocks, or pairs of neighbours
abbrev pub IsKind : ℕ → Type 0
IsKind kind = (kind ≡ 98) ⊎ (kind ≡ 112)

-- the key begins as that of a row of the load
pub record IsUnder (load : ℕ) (key : List ℕ) : Type 0 where
  pub fits : load < 2 ^ 64
  pub kind : ℕ
  pub rest : List ℕ
  pub is : key ≡ load_prefix load ++ kind ∷ rest
  pub known : IsKind kind

-- each key between those of the version and of chunks is one of such a load
abbrev pub AreOfLoads : KeyMap → Type 0
AreOfLoads m = (key value : List ℕ) → get m key ≡ Some value → IsPast key → (IsFrom chunks_prefix key → ⊥) → IsOfLoad m key

-- what stands after the seal and the version
pub record AreAfterSeal (next : ℕ) (m : KeyMap) : Type 0 where
  pub loads : AreOfLoads m
  pub counted : AreSealCounted m
  pub chunks : HasChunksBelow next m

-- ---- the loads that have rows, one after the other
-- the first key from one on is one of a load; or there is none before those of chunks
abbrev pub IsNextLoad : List ℕ → KeyMap → Option ℕ → Type 0
IsNextLoad from m None = (key value : List ℕ) → get m key ≡ Some value → IsFrom from key → IsFrom chunks_prefix key
IsNextLoad from m (Some load) = (e : Entry) × (more : List Entry) × (entries_from from (entries m) ≡ e ∷ more) × IsUnder load e.0

-- a key after all rows of a load, and below each other key after these
abbrev pub after_load : ℕ → List ℕ
after_load load = load_prefix load ++ 113 ∷ []

-- each key after the version's and below this one is one of a load that is known
abbrev pub AreOfLoadsTo : List ℕ → KeyMap → Type 0
AreOfLoadsTo from m = (key value : List ℕ) → get m key ≡ Some value → IsPast key → (IsFrom from key → ⊥) → IsOfLoad m key

-- so it is before one goes on; or there is no load that has rows after it
abbrev pub ComesBefore : Bool → List ℕ → List ℕ → KeyMap → Type 0
ComesBefore true from next m = AreOfLoadsTo next m × (length (entries_from next (entries m)) < length (entries_from from (entries m)))
ComesBefore false from next m = AreOfLoads m

-- ---- where rows are kept, beside the seal's row, if there is one
pub record IsKnownLoad (sealed : Option SealRow) (load : ℕ) (m : KeyMap) : Type 0 where
  pub stands : StandsAs seal_bytes (key_of seal) m sealed
  pub fits : load < 2 ^ 64
  pub is : IsLoad m load

pub record HasKnownLoads (sealed : Option SealRow) (m : KeyMap) : Type 0 where
  pub stands : StandsAs seal_bytes (key_of seal) m sealed
  pub rows : AreRows m
  pub owned : AreOwned m

pub record HasCountedSeal (sealed : Option SealRow) (m : KeyMap) : Type 0 where
  pub stands : StandsAs seal_bytes (key_of seal) m sealed
  pub counted : AreSealCounted m
