-- The rows of a revision that is added, and what is read before they are put.
use Rattle.std.specs.Prelude.{◌<◌, ◌+◌, ◌≡◌, ℕ, List, ◌++◌, length, Option, Some}
use Rattle.{desk_model.specs.{Ranges.ranges_of, claim.Geography.GeographyModel}, desk_store_pages.specs.Looking.Says, desk_store_rows.specs.{NameRows.name_rows, claim.Puts.Row}}
use Rattle.desk_store_rows.specs.{RevisionSteps.{new_chunk_rows, new_holding_rows}, claim.{DeskRows.most_revisions, Rows.KeyMap, Tidy.IsNext}, declared.value.Counters.Counters}
use Rattle.{desk_store_rows.specs.declared.value.StoredPlan.StoredPlan, plan_revisions.specs.{PlanLaws.RowFits, PlanRows.{IsFound, revised_rows}, Plans.{IsOfDesk, TakesRevision}}}
use Rattle.plan_revisions.specs.RevisionReading.{AreNames}

-- the rows of a revision's chunks, of which so many are new, those by which the plan holds these, those of all names, and then the plan's
-- and that of the numbers, of which so many are used
abbrev pub rows_put : List ℕ → StoredPlan → Counters → List (List ℕ) → List ℕ → ℕ → List Row
rows_put name row counters lists numbers used =
    ((new_chunk_rows counters.chunk lists ++ new_holding_rows row.number counters.chunk used) ++ name_rows row.number (row.revisions + 1) numbers)
    ++ revised_rows name row used counters

-- these are the names of the chunks of a plan's last revision, which are so many, where it has one
abbrev pub AreLastNames : StoredPlan → ℕ → List ℕ → KeyMap → Type 0
AreLastNames row count kept m = (numbers : List ℕ) → 0 < row.revisions → AreNames row.number row.revisions count m numbers → kept ≡ numbers

-- it has such names, where it has a revision
abbrev pub HasLastNames : StoredPlan → ℕ → KeyMap → Type 0
HasLastNames row count m = 0 < row.revisions → Says (AreNames row.number row.revisions count) m

-- what a map says of a plan: its row, and the names of its last revision's chunks
pub record AreRead (name : List ℕ) (count : ℕ) (row : StoredPlan) (next : Counters) (kept : List ℕ) (m : KeyMap) : Type 0 where
  pub found : IsFound m name (Some row)
  pub is_next : IsNext m next
  pub names : AreLastNames row count kept m

-- of a desk whose geography has so many counties, and whose plan takes a revision
pub record TakesSome (name : List ℕ) (count : ℕ) (m : KeyMap) : Type 0 where
  pub g : GeographyModel
  pub last : Option (List ℕ)
  pub many : count ≡ length (ranges_of g)
  pub desk : IsOfDesk (TakesRevision g name last) m

-- a row that was read has room for a revision
pub record IsOpen (row : StoredPlan) : Type 0 where
  pub room : row.revisions < most_revisions
  pub fits : RowFits row
