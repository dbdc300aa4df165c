-- The rows of one revision more make the next desk.
use Rattle.std.specs.Prelude.{◌≡◌, ◌<◌, ◌+◌, ◌^◌, ℕ, List, length, All, Option}
use Rattle.desk_model.specs.{Ranges.ranges_of, claim.{Desk.Desk, Geography.GeographyModel, GeographyModels.AreBlocks, Room.{changed, revision_rows}}}
use Rattle.{desk_store_catalogue.specs.Cutting.changes_in, desk_store_pages.specs.claim.Desks.IsDeskMap, desk_store_rows.specs.claim.{Puts.{Row, put_rows}, Rows.KeyMap}}
use Rattle.{desk_store_rows.specs.{claim.Tidy.CountersFit, declared.value.{Counters.Counters, StoredPlan.StoredPlan}}, plan_revisions.specs.Adding.{AreRead, rows_put}}
use Rattle.plan_revisions.specs.{Counties.drawn, PlanLaws.RowFits, Plans.{TakesNext, with_next}}

-- A plan's row and numbers that fit in theirs, the chunks of its last revision, and the districts of all blocks: there are numbers left
-- for the chunks of the counties that change.
pub record CanAdd (g : GeographyModel) (last : Option (List ℕ)) (next : List ℕ) (row : StoredPlan) (counters : Counters) : Type 0 where
  pub blocks : AreBlocks g.blocks
  pub long : length next ≡ length g.blocks
  pub each : All (λ d. d < 2 ^ 16) next
  pub row_fits : RowFits row
  pub fit : CountersFit counters
  pub room : counters.chunk + length (changed g last next) < 2 ^ 64

-- the rows that are put
abbrev pub all_rows : GeographyModel → List ℕ → Option (List ℕ) → List ℕ → StoredPlan → Counters → List ℕ → List Row
all_rows g name last next row counters kept =
    rows_put name row counters (changed g last next) (drawn counters.chunk 0 kept (changes_in last next (ranges_of g))) (length (changed g last next))

abbrev pub DesksAreAdded : Type 0
DesksAreAdded = (g : GeographyModel) (name : List ℕ) (last : Option (List ℕ)) (next : List ℕ)
    (row : StoredPlan) (counters : Counters) (kept : List ℕ) → CanAdd g last next row counters
    → (m : KeyMap) (d : Desk) → IsDeskMap m d → TakesNext g name last next d → AreRead name (length (ranges_of g)) row counters kept m
    → IsDeskMap (put_rows m (all_rows g name last next row counters kept)) (with_next name next d)

-- they are as many as a store is to have room for
abbrev pub RowsAreFew : Type 0
RowsAreFew = (g : GeographyModel) (name : List ℕ) (last : Option (List ℕ)) (next : List ℕ) (row : StoredPlan) (counters : Counters) (kept : List ℕ)
    → length (all_rows g name last next row counters kept) ≡ revision_rows g last next
