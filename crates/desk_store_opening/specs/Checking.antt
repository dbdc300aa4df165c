-- What is found of a desk's rows by whoever keeps none of them.
use Rattle.std.specs.{FinMap.{FinMap, get, len}, Prelude.{◌≡◌, ◌<◌, ◌≤◌, ◌+◌, ◌^◌, ℕ, List, length, get_or, Some, Result}}
use Rattle.{btree_scan.specs.declared.rows.Row.Row, desk_model.specs.{Ranges.ranges_in, claim.{Desk.{Desk, Plan, name_cmp}, Sizes.most_districts}}}
use Rattle.{desk_model.specs.{claim.Step.{plan_limit, revision_limit}, declared.ranges.CountyRange.CountyRange}, desk_store_opening.specs.Reading.no_cut}
use Rattle.desk_store_opening.specs.{Opening.{ArePlansShown, IsReadFrom, IsShown}, chunk_table.ChunkReading.HasPieces, plan_revisions.RevisionReading.HasParts}
use Rattle.{desk_store_pages.specs.{Looking.Gathers, claim.Desks.{AreWithin, IsSized, IsWithinLimits}}, desk_store_rows.specs.claim.{Keys.{key_of, named}, Rows.KeyMap}}
use Rattle.{desk_store_rows.specs.{claim.Values.plan_bytes, declared.value.StoredPlan.StoredPlan}, page_btree.specs.gets.declared.error.TreeError.TreeError}
use Rattle.{page_store.specs.declared.{pages.Pages.Pages, txn.Txn.Txn}, sector_device.specs.declared.SectorDevice.Ghosts}

-- of an error nothing is said of the rows
abbrev pub IsNever : KeyMap → Type 0
IsNever m = ⊥

-- the pages were only read, and at Ok this is so of the rows
abbrev pub Checks : {D X : Type 0} {g : Ghosts D} → (KeyMap → Type 0) → Txn → Pages D g → Pages D g → Result X TreeError → Type 0
Checks so t old new result = Gathers (λ m _. so m) IsNever t old new result

-- ---- a plan's revisions
-- rows have a chunk with this number, of so many districts and none above n
pub record IsChunkSeen (n number count : ℕ) (m : KeyMap) : Type 0 where
  pub chunk : List ℕ
  pub pieces : HasPieces number count m chunk
  pub within : AreWithin n chunk

-- so it is of each county that has a number
abbrev pub AreChunksSeen : ℕ → List CountyRange → List ℕ → KeyMap → Type 0
AreChunksSeen n ranges numbers m = (county : ℕ) → county < length numbers → county < length ranges
    → IsChunkSeen n (get_or numbers county 0) (get_or ranges county no_cut).count m

-- rows have the numbers of a revision's chunks, and the chunks
pub record IsRevisionSeen (n plan revision : ℕ) (ranges : List CountyRange) (m : KeyMap) : Type 0 where
  pub numbers : List ℕ
  pub parts : HasParts plan revision (length ranges) m numbers
  pub chunks : AreChunksSeen n ranges numbers m

-- so it is of the first revisions of a plan
abbrev pub AreRevisionsSeen : List CountyRange → StoredPlan → ℕ → KeyMap → Type 0
AreRevisionsSeen ranges row count m = (k : ℕ) → k < count → IsRevisionSeen row.districts row.number (k + 1) ranges m

-- ---- a plan
-- it has as many districts as its kind may have, and no more revisions than a plan may have
pub record IsSizedRow (row : StoredPlan) : Type 0 where
  pub some : 1 ≤ row.districts
  pub most : row.districts ≤ most_districts row.kind
  pub few : row.revisions ≤ revision_limit

-- the row is that of a plan, whose revisions are there
pub record IsRowSeen (ranges : List CountyRange) (row : Row) (m : KeyMap) : Type 0 where
  pub name : List ℕ
  pub key : row.key ≡ key_of (named name)
  pub plan : StoredPlan
  pub fits : plan.number < 2 ^ 64
  pub value : row.value ≡ plan_bytes plan
  pub sized : IsSizedRow plan
  pub revisions : AreRevisionsSeen ranges plan plan.revisions m

-- ---- a desk
-- each plan has a number of districts that plans of its kind may have, and no block in another
abbrev pub AreSized : FinMap name_cmp Plan → Type 0
AreSized plans = (name : List ℕ) (p : Plan) → get plans name ≡ Some p → IsSized p

-- these are the plans that rows tell, and they are as many and as large as plans may be
pub record ArePlansTold (ranges : List CountyRange) (m : KeyMap) : Type 0 where
  pub plans : FinMap name_cmp Plan
  pub shown : ArePlansShown m ranges plans
  pub few : len plans ≤ plan_limit
  pub sizes : AreSized plans

-- rows show a desk, which has these counties
pub record IsDeskShown (ranges : List CountyRange) (m : KeyMap) : Type 0 where
  pub desk : Desk
  pub shown : IsShown m desk
  pub limits : IsWithinLimits desk
  pub ranges_are : ranges ≡ ranges_in desk.geography

-- an opening reads a desk of the rows, which has these counties
pub record TellsDesk (ranges : List CountyRange) (m : KeyMap) : Type 0 where
  pub desk : Desk
  pub read : IsReadFrom m desk
  pub limits : IsWithinLimits desk
  pub ranges_are : ranges ≡ ranges_in desk.geography
