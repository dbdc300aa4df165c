-- The rows of a fork: a plan is made, holds the chunks of another plan's revision, and gets a revision that names them.
use Rattle.std.specs.Prelude.{◌≡◌, ◌+◌, ◌*◌, ℕ, List, length, Some, Result}
use Rattle.desk_model.specs.{Ranges.ranges_of, claim.{Desk.Desk, Geography.GeographyModel, GeographyModels.AreBlocks, Name.IsPlanName, Room.{rows_for, fork_rows}}}
use Rattle.{desk_store_pages.specs.claim.Desks.IsDeskMap, desk_store_rows.specs.{Shares.with_shared, Steps.one_plan_more, claim.{Puts.put_rows, Rows.KeyMap}}}
use Rattle.{desk_store_rows.specs.{claim.Tidy.{IsNext, CountersFit}, declared.value.{Counters.Counters, StoredPlan.StoredPlan}}, page_store.specs.declared.pages.Pages.Pages}
use Rattle.{page_btree.specs.gets.declared.error.TreeError.TreeError, page_store.specs.declared.txn.Txn.Txn, plan_revisions.specs.{Lookups.HasSomeRevision, PlanLaws.RowFits}}
use Rattle.plan_revisions.specs.{Outcomes.StepsWhereLeft, PlanRows.{IsFound, created_rows}, Plans.{IsOfDesk, TakesFork, with_fork}, RevisionReading.AreNames}
use Rattle.{plan_revisions.specs.{claim.PlanRows.HasPlanNumber, declared.change.ChangeOutcome.ChangeOutcome}, plan_revisions_sweeps.specs.chunk_table.ChunkChanging.ChangesMap}
use Rattle.{plan_revisions_sweeps.specs.chunk_table.Holding.CanHoldAll, sector_device.specs.declared.SectorDevice.Ghosts}

-- what a map says of a plan of which a revision is forked: its row, and the names of that revision's chunks, which are so many
pub record IsSource (from : List ℕ × ℕ) (count : ℕ) (row : StoredPlan) (next : Counters) (kept : List ℕ) (m : KeyMap) : Type 0 where
  pub found : IsFound m from.0 (Some row)
  pub is_next : IsNext m next
  pub names : (numbers : List ℕ) → AreNames row.number from.1 count m numbers → kept ≡ numbers

-- of a desk whose geography has so many counties, and whose plan has the revision
pub record HasSource (from : List ℕ × ℕ) (count : ℕ) (m : KeyMap) : Type 0 where
  pub g : GeographyModel
  pub many : count ≡ length (ranges_of g)
  pub desk : IsOfDesk (HasSomeRevision g from.0 from.1) m

-- the row of a plan like that of another, without revisions
abbrev pub row_like : StoredPlan → ℕ → StoredPlan
row_like source number = record { number = number; kind = source.kind; districts = source.districts; revisions = 0 }

-- the plan was made
abbrev pub with_made : List ℕ → StoredPlan → Counters → KeyMap → KeyMap
with_made name source next m = put_rows m (created_rows name source.kind source.districts next)

-- and has a revision with these chunks
abbrev pub forked_map : List ℕ → StoredPlan → Counters → List ℕ → KeyMap → KeyMap
forked_map name source next numbers m = with_shared (with_made name source next m) (one_plan_more next) name (row_like source next.plan) numbers

-- once it was made it can hold them
abbrev pub CanFork : List ℕ → StoredPlan → Counters → List ℕ → KeyMap → Type 0
CanFork name source next numbers m = CanHoldAll next.plan numbers (with_made name source next m)

-- by so many rows at most
abbrev pub rows_of_fork : ℕ → ℕ
rows_of_fork counties = 4 + rows_for 128 counties + 2 * counties

module _ {D : Type 0} {g : Ghosts D} where
  -- the rows of a fork were put
  abbrev pub PutsFork : {T : Type 0} → List ℕ → StoredPlan → Counters → List ℕ → Txn → Txn → Pages D g → Pages D g → Result T TreeError → Type 0
  PutsFork name source next numbers t u old new result =
      ChangesMap (CanFork name source next numbers) (forked_map name source next numbers) (rows_of_fork (length numbers)) t u old new result

  -- the desk has the plan, where a number was left for it
  abbrev pub Forks : GeographyModel → List ℕ → List ℕ × ℕ → Txn → Txn → Pages D g → Pages D g → Result ChangeOutcome TreeError → Type 0
  Forks geography name from t u old new result =
      StepsWhereLeft (TakesFork geography name from) (with_fork name from) (fork_rows geography) HasPlanNumber t u old new result

-- ---- the rows make the next desk
-- a plan's row and numbers that fit in theirs, of which one is left for a plan, and a name that a plan may have
pub record CanMake (g : GeographyModel) (name : List ℕ) (source : StoredPlan) (next : Counters) : Type 0 where
  pub blocks : AreBlocks g.blocks
  pub is_name : IsPlanName name
  pub row_fits : RowFits source
  pub fit : CountersFit next
  pub room : HasPlanNumber next

pub record MakesFork (name : List ℕ) (from : List ℕ × ℕ) (source : StoredPlan)
    (next : Counters) (numbers : List ℕ) (m : KeyMap) (d : Desk) : Type 0 where
  pub can : CanFork name source next numbers m
  pub is : IsDeskMap (forked_map name source next numbers m) (with_fork name from d)

abbrev pub ForksAreMade : Type 0
ForksAreMade = (g : GeographyModel) (name : List ℕ) (from : List ℕ × ℕ) (source : StoredPlan) (next : Counters) (numbers : List ℕ) → CanMake g name source next
    → (m : KeyMap) (d : Desk) → IsDeskMap m d → TakesFork g name from d → IsSource from (length (ranges_of g)) source next numbers m
    → MakesFork name from source next numbers m d
