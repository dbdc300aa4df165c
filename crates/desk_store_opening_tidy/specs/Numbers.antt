-- Numbers in use, and those that come next.
use Rattle.std.specs.Prelude.{◌≡◌, ◌<◌, ◌≤◌, ◌^◌, ℕ, List, [], All}
use Rattle.{desk_model.specs.claim.Desk.Desk, desk_store_opening_tidy.specs.Rows.{AreAfterSeal, AreRowsToVersion}, desk_store_rows.specs.claim.DeskRows.IsDesk}
use Rattle.desk_store_rows.specs.claim.Keys.{RowKey, Fits, counters, retired, begun, holding, holder_count, named, part, seal, version, block, pair, chunk, in_four, in_eight}
use Rattle.desk_store_rows.specs.claim.{Lists.{AreChunks, chunks_bytes}, Rows.{KeyMap, Has}, Tidy.{IsNext, CountersFit, AreBelow, Tidy}, Values.{plan_bytes, seal_bytes}}
use Rattle.desk_store_rows.specs.declared.value.{Counters.Counters, SealRow.SealRow, StoredPlan.StoredPlan}

-- how many plans hold a chunk: 1 or more, and no more than were numbered
abbrev pub IsCount : ℕ → List ℕ → Type 0
IsCount plans value = (count : ℕ) × (0 < count) × (count ≤ plans) × (count < 2 ^ 64) × (value ≡ in_eight count)

-- The numbers of a plan, of chunks and of a load that a row has are below those that come next. A holding says nothing else, and
-- a version is the second.
abbrev pub IsBelow : Counters → RowKey → List ℕ → Type 0
IsBelow next counters value = Unit {0}
IsBelow next (retired plan) value = plan < next.plan
IsBelow next (begun load) value = load < next.load
IsBelow next (holding plan number) value = (plan < next.plan) × (number < next.chunk) × (value ≡ [])
IsBelow next (holder_count number) value = (number < next.chunk) × IsCount next.plan value
IsBelow next (named name) value = (p : StoredPlan) × (plan_bytes p ≡ value) × (p.number < next.plan)
IsBelow next (part plan revision index) value = (plan < next.plan)
    × ((numbers : List ℕ) × AreChunks numbers × (chunks_bytes numbers ≡ value) × All (λ n. n < next.chunk) numbers)
IsBelow next seal value = (s : SealRow) × (seal_bytes s ≡ value) × (s.load < next.load)
IsBelow next version value = value ≡ in_four 2
IsBelow next (block load place) value = Unit {0}
IsBelow next (pair load place) value = Unit {0}
IsBelow next (chunk number piece) value = Unit {0}

-- the numbers that a key tells by fit in its bytes
abbrev pub NumbersFit : RowKey → Type 0
NumbersFit counters = Unit {0}
NumbersFit (retired plan) = plan < 2 ^ 64
NumbersFit (begun load) = load < 2 ^ 64
NumbersFit (holding plan number) = Fits (holding plan number)
NumbersFit (holder_count number) = number < 2 ^ 64
NumbersFit (named name) = Unit {0}
NumbersFit (part plan revision index) = plan < 2 ^ 64
NumbersFit seal = Unit {0}
NumbersFit version = Unit {0}
NumbersFit (block load place) = Unit {0}
NumbersFit (pair load place) = Unit {0}
NumbersFit (chunk number piece) = Unit {0}

abbrev pub AllBelow : Counters → KeyMap → Type 0
AllBelow next m = (of : RowKey) (value : List ℕ) → NumbersFit of → Has m of value → IsBelow next of value

-- of the rows up to that of the version each key is one of a row, and the numbers in them are below those that come next
pub record AreSoundRows (next : Counters) (m : KeyMap) : Type 0 where
  pub below : AllBelow next m
  pub rows : AreRowsToVersion m

-- the rows are those of a desk, as commands keep them, in either version
pub record IsKept (m : KeyMap) : Type 0 where
  pub desk : Desk
  pub is : IsDesk m desk
  pub tidy : Tidy m

-- and these numbers come next
pub record IsDue (next : Counters) (m : KeyMap) : Type 0 where
  pub kept : IsKept m
  pub is_next : IsNext m next
  pub fits : CountersFit next

-- the same of rows that tell which plans hold a chunk, and how many do; and the version is the second, if there is one
pub record AreToldBelow (m : KeyMap) (next : Counters) : Type 0 where
  pub holdings : (plan number : ℕ) (value : List ℕ) → Fits (holding plan number) → Has m (holding plan number) value
      → IsBelow next (holding plan number) value
  pub holder_counts : (number : ℕ) (value : List ℕ) → Fits (holder_count number) → Has m (holder_count number) value → IsBelow next (holder_count number) value
  pub version : (value : List ℕ) → Has m version value → IsBelow next version value

-- The numbers that are in use are below those that come next. Up to the version each key is one of a row, and after it stand
-- rows of loads that are known, and of chunks with such numbers, alone.
pub record HasNumbersBelow (m : KeyMap) : Type 0 where
  pub next : Counters
  pub is_next : IsNext m next
  pub fits : CountersFit next
  pub below : AreBelow m next
  pub told : AreToldBelow m next
  pub rows : AreRowsToVersion m
  pub after : AreAfterSeal next.chunk m
