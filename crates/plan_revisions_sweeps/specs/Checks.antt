-- What no promise rests on, beside claim/Checks.antt.
use Rattle.{std.specs.{BTreeMap.{BTreeMap, Updates, get as count_at}, FinMap.get as row_at, Ordering.nat_cmp}, btree_scan.specs.declared.rows.Row.Row}
use Rattle.std.specs.Prelude.{◌≡◌, ◌⊎◌, ◌<◌, ◌+◌, ◌^◌, ℕ, zero, suc, Bool, true, false, List, [], ◌∷◌, ◌++◌, set, Option, Some, None, Contains}
use Rattle.desk_store_rows.specs.{TurnLaws.IsShared, claim.{Holders.AreHolders, Keys.{key_of, Fits, holding, holder_count, part, in_eight}, Lists.{AreChunks, chunks_bytes}}}
use Rattle.{desk_store_rows.specs.claim.{Rows.{KeyMap, Has}, Tidy.Tidy}, page_btree.specs.node.claim.Entries.Entry, plan_revisions_sweeps.specs.claim.Checks.IsHeldOrGone}

-- the rows are tidy, in the new version
pub record IsNewTidy (m : KeyMap) : Type 0 where
  pub tidy : Tidy m
  pub new : tidy.new ≡ true

-- ---- rows that are looked up
abbrev pub IsThere : List ℕ → KeyMap → Bool → Type 0
IsThere key m true = (value : List ℕ) × (row_at m key ≡ Some value)
IsThere key m false = row_at m key ≡ None

-- one without a value
abbrev pub IsMarkedAs : List ℕ → KeyMap → Bool → Type 0
IsMarkedAs key m true = row_at m key ≡ Some []
IsMarkedAs key m false = row_at m key ≡ Some [] → ⊥

-- ---- what is counted
-- how many plans were counted so far
abbrev pub so_many : Option ℕ → ℕ
so_many None = 0
so_many (Some count) = count

-- no number stands for none
abbrev pub noted : ℕ → Option ℕ
noted zero = None
noted (suc more) = Some (more + 1)

-- one more was counted that holds the chunk
abbrev pub IsOneMore : ℕ → BTreeMap ℕ ℕ → BTreeMap ℕ ℕ → Type 0
IsOneMore number old new = Updates nat_cmp old new number (Some (so_many (count_at nat_cmp old number) + 1))

-- a holding's row without a value, of a chunk that has a count, and one more was counted that holds it
pub record IsCounted (row : Row) (old new : BTreeMap ℕ ℕ) (m : KeyMap) : Type 0 where
  pub plan : ℕ
  pub number : ℕ
  pub fits : Fits (holding plan number)
  pub key : row.key ≡ key_of (holding plan number)
  pub value : row.value ≡ []
  pub shared : IsShared m number
  pub more : IsOneMore number old new

-- a holding's row, of a chunk that has a count
pub record IsHoldingRow (row : Row) (m : KeyMap) : Type 0 where
  pub plan : ℕ
  pub number : ℕ
  pub fits : Fits (holding plan number)
  pub key : row.key ≡ key_of (holding plan number)
  pub value : row.value ≡ []
  pub shared : IsShared m number

-- so many hold the chunk as were counted, and where some do it has a count
pub record HasCount (counts : BTreeMap ℕ ℕ) (m : KeyMap) (number : ℕ) : Type 0 where
  pub count : ℕ
  pub fits : count < 2 ^ 64
  pub told : count_at nat_cmp counts number ≡ noted count
  pub holders : AreHolders m number count
  pub shared : 0 < count → IsShared m number

abbrev pub AreCounts : BTreeMap ℕ ℕ → KeyMap → Type 0
AreCounts counts m = (number : ℕ) → number < 2 ^ 64 → HasCount counts m number

-- the rows are tidy, and so many were counted
pub record HasCounts (counts : BTreeMap ℕ ℕ) (m : KeyMap) : Type 0 where
  pub is : IsNewTidy m
  pub counts_are : AreCounts counts m

-- ---- what counts tell
-- the row's chunk was counted as its value tells
pub record IsEntryTold (counts : BTreeMap ℕ ℕ) (e : Entry) : Type 0 where
  pub number : ℕ
  pub count : ℕ
  pub fits : number < 2 ^ 64
  pub key : e.0 ≡ key_of (holder_count number)
  pub value : e.1 ≡ in_eight count
  pub count_fits : count < 2 ^ 64
  pub told : count_at nat_cmp counts number ≡ Some count

abbrev pub AreTold : BTreeMap ℕ ℕ → KeyMap → Type 0
AreTold counts m = (number : ℕ) (value : List ℕ) → number < 2 ^ 64 → Has m (holder_count number) value
    → (count : ℕ) × (value ≡ in_eight count) × (count_at nat_cmp counts number ≡ Some count)

-- ---- what parts name
-- a row is no part's of a plan which neither holds what it names nor was taken away
abbrev pub IsEntryNamed : KeyMap → Entry → Type 0
IsEntryNamed m e = (plan revision index : ℕ) (numbers : List ℕ) → Fits (part plan revision index) → e.0 ≡ key_of (part plan revision index)
    → AreChunks numbers → e.1 ≡ chunks_bytes numbers → (number : ℕ) → Contains numbers number → IsHeldOrGone m plan number

-- a list with one number more, in the place of another or after all
abbrev pub IsWithOne : ℕ → List ℕ → List ℕ → Type 0
IsWithOne number old new = ((place : ℕ) × (new ≡ set old place number)) ⊎ (new ≡ old ++ number ∷ [])

-- a plan's list, which is another plan's only where it is empty
abbrev pub IsPlansList : ℕ → (old new : ℕ × List ℕ) → Type 0
IsPlansList plan old new = (new.0 ≡ plan) × (((old.0 ≡ plan) × (new.1 ≡ old.1)) ⊎ (new.1 ≡ []))

-- a part's row, whose plan holds what it names or was taken away
pub record IsPartRow (row : Row) (m : KeyMap) : Type 0 where
  pub plan : ℕ
  pub revision : ℕ
  pub index : ℕ
  pub fits : Fits (part plan revision index)
  pub key : row.key ≡ key_of (part plan revision index)
  pub numbers : List ℕ
  pub chunks : AreChunks numbers
  pub value : row.value ≡ chunks_bytes numbers
  pub held : (number : ℕ) → Contains numbers number → IsHeldOrGone m plan number
