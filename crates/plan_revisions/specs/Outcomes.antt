-- What becomes of a step of a desk's plans, and of a revision that is added.
use Rattle.std.specs.Prelude.{◌≡◌, ℕ, Bool, List, length, Option, Result}
use Rattle.desk_model.specs.{Ranges.ranges_of, claim.{Desk.Desk, Geography.GeographyModel, Room.{changed, revision_rows}}, declared.ranges.CountyRange.CountyRange}
use Rattle.{desk_store_catalogue.specs.Cutting.changes_in, desk_store_pages.specs.Outcomes.{PutsRows, Writes}, desk_store_rows.specs.declared.value.Counters.Counters}
use Rattle.{desk_store_rows.specs.declared.value.StoredPlan.StoredPlan, page_btree.specs.gets.declared.error.TreeError.TreeError, page_store.specs.declared.pages.Pages.Pages}
use Rattle.{page_store.specs.declared.txn.Txn.Txn, plan_revisions.specs.{Adding.rows_put, Counties.new_lists, Plans.{TakesNext, with_next}, claim.PlanRows.HasChunkNumbers}}
use Rattle.{plan_revisions.specs.{claim.Steps.{HasStepped, IsStepped, StepErr}, declared.change.ChangeOutcome.ChangeOutcome}, sector_device.specs.declared.SectorDevice.Ghosts}

module _ {D : Type 0} {g : Ghosts D} where
  -- the step was made, or it is told why not
  abbrev pub Steps : {T : Type 0} → (Desk → Type 0) → (Desk → Desk) → ℕ → Txn → Txn → Pages D g → Pages D g → Result T TreeError → Type 0
  Steps says next rows t u old new result = Writes (λ _. HasStepped says next rows t u old new) (StepErr says rows t old new) u old new result

  -- the same of one that asks for numbers, where they were left
  abbrev pub StepsWhereLeft : (Desk → Type 0) → (Desk → Desk) → ℕ → (Counters → Type 0)
      → Txn → Txn → Pages D g → Pages D g → Result ChangeOutcome TreeError → Type 0
  StepsWhereLeft says next rows enough t u old new result =
      Writes (λ change. IsStepped says next rows enough t u old new change) (StepErr says rows t old new) u old new result

-- the rows of a revision in which these counties change, with the numbers of its chunks, of which so many are used
abbrev pub AddsRows : {D T : Type 0} {g : Ghosts D} → List ℕ → StoredPlan → Counters → List Bool
    → List ℕ → List CountyRange → List ℕ → ℕ → Txn → Txn → Pages D g → Pages D g → Result T TreeError → Type 0
AddsRows name row counters changes next ranges numbers used t u old new result =
    PutsRows (rows_put name row counters (new_lists changes next ranges) numbers used) t u old new result

-- after a last revision since which these counties change: the desk's plan has one more, where numbers were left for their chunks
abbrev pub AddsRevision : {D : Type 0} {g : Ghosts D} → GeographyModel → List Bool → List ℕ
    → List ℕ → Txn → Txn → Pages D g → Pages D g → Result ChangeOutcome TreeError → Type 0
AddsRevision geography changes name next t u old new result = Writes
    (λ change. (last : Option (List ℕ)) → changes ≡ changes_in last next (ranges_of geography)
    → IsStepped (TakesNext geography name last next) (with_next name next) (revision_rows geography last next)
    (HasChunkNumbers (length (changed geography last next))) t u old new change)
    (λ e. (last : Option (List ℕ)) → changes ≡ changes_in last next (ranges_of geography)
    → StepErr (TakesNext geography name last next) (revision_rows geography last next) t old new e) u old new result

-- after this last revision, if there is any: the desk's plan has one more, where numbers were left for the chunks of the counties that change
abbrev pub AddsNext : {D : Type 0} {g : Ghosts D} → GeographyModel → List ℕ → Option (List ℕ)
    → List ℕ → Txn → Txn → Pages D g → Pages D g → Result ChangeOutcome TreeError → Type 0
AddsNext geography name last next t u old new result = StepsWhereLeft (TakesNext geography name last next) (with_next name next)
    (revision_rows geography last next) (HasChunkNumbers (length (changed geography last next))) t u old new result
