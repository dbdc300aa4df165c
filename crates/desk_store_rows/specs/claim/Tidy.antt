-- What is kept from the first day on, so that rows which nothing needs can be told from those that something does, and so that
-- no number is used again.
use Rattle.std.specs.Prelude.{◌≡◌, ◌⊎◌, ◌<◌, ◌≤◌, ◌^◌, ℕ, Bool, true, false, Option, List, [], Some, None, Contains, MatchOption}
use Rattle.desk_store_rows.specs.claim.{Holders.{IsHeld, AreTallied}, Lists.{chunks_bytes, districts_bytes, AreChunks, AreDistricts}, Rows.{KeyMap, row_in, Has}}
use Rattle.desk_store_rows.specs.claim.Keys.{RowKey, key_of, Fits, counters, retired, begun, holding, named, part, seal, version, block, pair, chunk, in_four}
use Rattle.desk_store_rows.specs.{claim.Values.{counters_bytes, plan_bytes, seal_bytes}, declared.value.{Counters.Counters, SealRow.SealRow, StoredPlan.StoredPlan}}
use Rattle.std.specs.FinMap as map_of

-- before the first row of counters no number was given
abbrev pub no_numbers : Counters
no_numbers = record { plan = 0; chunk = 0; load = 0 }

-- the numbers that the next plan, chunk and load get
abbrev pub IsNext : KeyMap → Counters → Type 0
IsNext m next = MatchOption (row_in m counters) (next ≡ no_numbers) (λ value. value ≡ counters_bytes next)

-- they fit in their row, so that the row tells them
pub record CountersFit (next : Counters) : Type 0 where
  pub plan_fits : next.plan < 2 ^ 64
  pub chunk_fits : next.chunk < 2 ^ 64
  pub load_fits : next.load < 2 ^ 64

-- the row of a plan that has this number
pub record IsNumbered (m : KeyMap) (name : List ℕ) (number : ℕ) : Type 0 where
  pub plan : StoredPlan
  pub row : Has m (named name) (plan_bytes plan)
  pub is : plan.number ≡ number
  pub fits : number < 2 ^ 64

-- a part of a revision of this plan names the chunk
pub record IsNamedBy (m : KeyMap) (plan number : ℕ) : Type 0 where
  pub revision : ℕ
  pub index : ℕ
  pub part_fits : Fits (part plan revision index)
  pub numbers : List ℕ
  pub chunks : AreChunks numbers
  pub row : Has m (part plan revision index) (chunks_bytes numbers)
  pub among : Contains numbers number

-- each key is that of a row
abbrev pub AreRows : KeyMap → Type 0
AreRows m = (key value : List ℕ) → map_of.get m key ≡ Some value → (row : RowKey) × Fits row × (key ≡ key_of row)

-- numbers in use are below those that come next
pub record AreBelow (m : KeyMap) (next : Counters) : Type 0 where
  pub plans : (name : List ℕ) (number : ℕ) → IsNumbered m name number → number < next.plan
  pub retired_plans : (plan : ℕ) (value : List ℕ) → Fits (retired plan) → Has m (retired plan) value → plan < next.plan
  pub named_chunks : (plan number : ℕ) → IsNamedBy m plan number → number < next.chunk
  pub begun_loads : (load : ℕ) (value : List ℕ) → Fits (begun load) → Has m (begun load) value → load < next.load
  pub sealed_load : (sealed : SealRow) → sealed.load < 2 ^ 64 → Has m seal (seal_bytes sealed) → sealed.load < next.load

-- a plan's number is that of a plan that is there, or of one that was taken away
abbrev pub IsKnown : KeyMap → ℕ → Type 0
IsKnown m plan = ((name : List ℕ) × IsNumbered m name plan) ⊎ Has m (retired plan) []

-- a load is the sealed one, or was begun
abbrev pub IsLoad : KeyMap → ℕ → Type 0
IsLoad m load = ((sealed : SealRow) × Has m seal (seal_bytes sealed) × (sealed.load ≡ load)) ⊎ Has m (begun load) []

-- no row without what it belongs to
pub record AreOwned (m : KeyMap) : Type 0 where
  pub one : (name other : List ℕ) (number : ℕ) → IsNumbered m name number → IsNumbered m other number → name ≡ other
  pub gone : (name : List ℕ) (number : ℕ) → IsNumbered m name number → row_in m (retired number) ≡ None
  pub parts : (plan revision index : ℕ) (value : List ℕ) → Fits (part plan revision index) → Has m (part plan revision index) value → IsKnown m plan
  pub chunks : (number index : ℕ) (value : List ℕ) → Fits (chunk number index)
      → Has m (chunk number index) value → (plan : ℕ) × IsNamedBy m plan number
  pub blocks : (load place : ℕ) (value : List ℕ) → Fits (block load place) → Has m (block load place) value → IsLoad m load
  pub pairs : (load place : ℕ) (value : List ℕ) → Fits (pair load place) → Has m (pair load place) value → IsLoad m load
  -- the sealed load is none of those that were begun
  pub ended : (sealed : SealRow) → sealed.load < 2 ^ 64 → Has m seal (seal_bytes sealed) → row_in m (begun sealed.load) ≡ None

-- a plan that is there holds each chunk that it names
abbrev pub AllHold : KeyMap → Type 0
AllHold m = (name : List ℕ) (plan number : ℕ) → IsNumbered m name plan → IsNamedBy m plan number → IsHeld m plan number

-- the rows are of the new version, which this row tells, or of the old one, which has none
abbrev pub version_row : Bool → Option (List ℕ)
version_row true = Some (in_four 2)
version_row false = None

-- A plan holds chunks that a part of it names, and each chunk's plans are counted. In the new version a plan that is there holds each
-- chunk that it names; one that was taken away may have let some go. In the old one none need be held.
pub record AreHoldings (m : KeyMap) (new : Bool) : Type 0 where
  pub told : row_in m version ≡ version_row new
  pub held : (plan number : ℕ) (value : List ℕ) → Fits (holding plan number)
      → Has m (holding plan number) value → (value ≡ []) × IsNamedBy m plan number
  pub counted_by_holders : AreTallied m
  pub hold : new ≡ true → AllHold m

-- the value of a part of a revision, and of a piece of a chunk
abbrev pub IsPart : List ℕ → Type 0
IsPart value = (numbers : List ℕ) × AreChunks numbers × (value ≡ chunks_bytes numbers)

abbrev pub IsPiece : List ℕ → Type 0
IsPiece value = (districts : List ℕ) × AreDistricts districts × (value ≡ districts_bytes districts)

-- Each part of a revision says which chunks it names, and each piece of a chunk its districts, also where no plan has them any more.
-- A plan that is there has no part beyond the revisions that its row counts.
pub record AreCounted (m : KeyMap) : Type 0 where
  pub parts : (plan revision index : ℕ) (value : List ℕ) → Fits (part plan revision index) → Has m (part plan revision index) value → IsPart value
  pub pieces : (number piece : ℕ) (value : List ℕ) → Fits (chunk number piece) → Has m (chunk number piece) value → IsPiece value
  pub counted : (name : List ℕ) (p : StoredPlan) → p.number < 2 ^ 64 → p.revisions < 2 ^ 32 → Has m (named name) (plan_bytes p)
      → (revision index : ℕ) (value : List ℕ) → Fits (part p.number revision index)
      → Has m (part p.number revision index) value → (0 < revision) × (revision ≤ p.revisions)

pub record Tidy (m : KeyMap) : Type 0 where
  pub next : Counters
  pub new : Bool
  pub is_next : IsNext m next
  pub fits : CountersFit next
  pub rows : AreRows m
  pub below : AreBelow m next
  pub owned : AreOwned m
  pub holdings : AreHoldings m new
  pub counted : AreCounted m
