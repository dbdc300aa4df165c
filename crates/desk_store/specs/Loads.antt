-- Loads at a clerk.
use Rattle.std.specs.Prelude.{◌≡◌, ℕ, Bool, true, false, Some, None, Result, OnOk, OnErr}
use Rattle.{desk_model.specs.claim.Geography.GeographyModel, desk_store.specs.{claim.Clerks.{desk_of, disk_of, pages_of, Keeps}, declared.clerk.Clerk.Clerk}}
use Rattle.desk_store_opening.specs.geo_tables.{Loading.{HoldsLoad, number_of}, Refusals.{BeginErr, BatchErr, SealErr}, declared.load.Load.Load}
use Rattle.desk_store_pages.specs.declared.error.StoreError.{StoreError, TheVariants.{AlreadySealed, Full, Memory, NotAStore, Halted, Ended}}
use Rattle.{page_store.specs.{claim.Transactions.{disk_in, has_halted, IsQuiet}, declared.pages.Pages.Pages}, sector_device.specs.declared.SectorDevice.Ghosts}

module _ {D : Type 0} {g : Ghosts D} where
  -- the store holds what is staged of the load, beside the desk that is shown
  pub record Stages (x : Clerk D g) (load : Load) : Type 0 where
    pub keeps : Keeps x
    pub holds : x.halted ≡ false → (disk_of x).is_honest → HoldsLoad (pages_of x) (desk_of x) load

  -- a geography is sealed
  abbrev pub HasGeography : Clerk D g → Type 0
  HasGeography x = (sealed : GeographyModel) × ((desk_of x).geography ≡ Some sealed)

  -- a load was begun since the opening, and it is the last one
  abbrev pub IsLast : Clerk D g → Load → Type 0
  IsLast x load = x.loading ≡ Some (number_of load)

  -- no geography is sealed, which would be told first, and the load isn't the last one
  abbrev pub HasEnded : Clerk D g → Load → Type 0
  HasEnded x load = ((desk_of x).geography ≡ None) × (IsLast x load → ⊥)

  -- the clerk has halted, and the pages with it where it did so in this call
  abbrev pub HasHalted : Clerk D g → Bool → Pages D g → Type 0
  HasHalted x halted b = (halted ≡ true) × (x.halted ≡ false → has_halted b ≡ true)

  -- why no load is begun
  abbrev pub BeginRefused : GeographyModel → Clerk D g → StoreError → Bool → Pages D g → Type 0
  BeginRefused area x AlreadySealed halted b = (halted ≡ x.halted) × (Keeps x → (disk_in b).is_honest → HasGeography x)
  BeginRefused area x Full halted b = (halted ≡ false) × BeginErr area (pages_of x) b Full
  BeginRefused area x Memory halted b = (halted ≡ false) × IsQuiet (pages_of x) b
  BeginRefused area x NotAStore halted b = (halted ≡ false) × BeginErr area (pages_of x) b NotAStore
  BeginRefused area x Halted halted b = HasHalted x halted b
  BeginRefused area x _ halted b = ⊥

  -- why a load does not go on, whatever its next step is
  abbrev pub EndRefused : Load → Clerk D g → StoreError → Type 0
  EndRefused load x AlreadySealed = HasGeography x
  EndRefused load x Ended = HasEnded x load
  EndRefused load x Halted = x.halted ≡ true
  EndRefused load x _ = ⊥

  -- nor with this step, where the pages tell why
  abbrev pub StepRefused : (StoreError → Type 0) → Load → Clerk D g → StoreError → Bool → Pages D g → Type 0
  StepRefused why load x AlreadySealed halted b = HasGeography x
  StepRefused why load x Full halted b = (halted ≡ false) × why Full
  StepRefused why load x Memory halted b = (halted ≡ false) × IsQuiet (pages_of x) b
  StepRefused why load x NotAStore halted b = (halted ≡ false) × why NotAStore
  StepRefused why load x Halted halted b = HasHalted x halted b
  StepRefused why load x Ended halted b = HasEnded x load
  StepRefused why load x _ halted b = ⊥

  -- why no rows of it are staged
  abbrev pub BatchRefused : Load → ℕ → Clerk D g → StoreError → Bool → Pages D g → Type 0
  BatchRefused load rows x e halted b = StepRefused (BatchErr load rows (pages_of x) b) load x e halted b

  -- why it is not sealed
  abbrev pub SealRefused : Load → Clerk D g → StoreError → Bool → Pages D g → Type 0
  SealRefused load x e halted b = StepRefused (SealErr load (pages_of x) b) load x e halted b

  -- a call of a load that shows no new desk; a refusal, but for a fault, leaves the pages as they were
  pub record Loads {A : Type 0} (x y : Clerk D g) (result : Result A StoreError) : Type 0 where
    pub desk : desk_of y ≡ desk_of x
    pub working : OnOk result ((x.halted ≡ false) × (y.halted ≡ false))
    pub quiet : y.halted ≡ false → OnErr result (IsQuiet (pages_of x) (pages_of y))
