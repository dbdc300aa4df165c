-- What calls of a clerk leave, each in one relation.
use Rattle.std.specs.Prelude.{◌≡◌, false, OnOk, IfOk, IfErr, ◌≢◌, ◌≤◌, None, Result, ◌+◌, OnErr, ℕ, ◌↔◌}
use Rattle.desk_store.specs.{Keeping.sealed_desk, Loads.{Loads, Stages, IsLast, BatchRefused, SealRefused}, Openings.{IsFound, OpenRefused}, claim.Openings.device_after}
use Rattle.{desk_store.specs.{Sweeps.{HasRows, IsClean, HasSwept, Maintains}, declared.clerk.Clerk.Clerk}, desk_store_opening.specs.geo_tables.declared.load.Load.Load}
use Rattle.{desk_store.specs.claim.Clerks.{desk_of, disk_of, is_halted, sectors_of, Keeps, pages_of, MovesIf, free_of, HaltsByDevice}, desk_store_rows.specs.claim.Rows.KeyMap}
use Rattle.desk_store_opening.specs.{geo_tables.Loading.{IsFurther, geography_model_of, done_of}, plan_revisions.sweeps.claim.Checks.AreSoundHoldings}
use Rattle.desk_store_pages.specs.{Openings.{IsSpared, LeavesOneOf}, claim.Openings.{AllVersions, IsOneOf, LeavesOneAs}, declared.error.StoreError.StoreError}
use Rattle.{desk_store_pages.specs.declared.error.StoreError.TheVariants.{DeviceFault, NotAStore}, desk_store_rows.specs.claim.GeographyRows.geography_rows}
use Rattle.{page_btree.specs.gets.claim.Map.InPages as HoldsRows, page_store.specs.claim.Transactions.IsQuiet, sector_device.specs.declared.SectorDevice.Ghosts}

-- a clerk is opened over a desk that the device holds, or the device comes back; a stop leaves a desk that was there
pub record OpensClerk {D : Type 0} (g : Ghosts D) (device : D) (result : Result (Clerk D g) (StoreError × D)) : Type 0 where
  pub sectors : (g.disk (device_after result)).sectors ≡ (g.disk device).sectors
  pub honest : (g.disk (device_after result)).is_honest → (g.disk device).is_honest
  pub any_moment : LeavesOneOf (g.disk device) (g.disk (device_after result))
  pub any_version : LeavesOneAs (g.disk device) (g.disk (device_after result))
  pub opened : AllVersions (g.disk device) → IfOk result (λ x. Keeps x × ((disk_of x).is_honest → IsOneOf (g.disk device) (desk_of x)))
  pub found : IfOk result (λ x. (disk_of x).is_honest → IsFound (g.disk device) x)
  pub loading : IfOk result (λ x. x.loading ≡ None)
  pub working : IfOk result (λ x. (is_halted x ≡ false) × (sectors_of x ≡ (g.disk device).sectors))
  pub passed : (g.disk (device_after result)).is_honest → OnOk result ((g.disk (device_after result)).faults ≡ (g.disk device).faults)
  pub faults : (g.disk (device_after result)).is_honest → (g.disk device).faults ≤ (g.disk (device_after result)).faults
  pub calm : IfErr result (λ e. (g.disk e.1).is_honest → e.0 ≢ DeviceFault → (g.disk e.1).faults ≡ (g.disk device).faults)
  pub err : IfErr result (λ e. OpenRefused g device e.1 e.0)
  pub untouched : IfErr result (λ e. (g.disk e.1).is_honest → e.0 ≡ NotAStore → IsSpared (g.disk device) (g.disk e.1))

-- some rows of a load are staged, and the desk that is shown stays
pub record LoadsBatch {D : Type 0} {g : Ghosts D} (was load : Load) (rows : ℕ) (x y : Clerk D g) (result : Result ℕ StoreError) : Type 0 where
  pub moves : MovesIf (Stages x was) (desk_of x) x y
  pub loads : Loads x y result
  pub staged : Stages x was → OnOk result (Stages y load)
  pub last : OnOk result (IsLast y load)
  pub further : OnOk result (IsFurther was load rows)
  pub left : IfOk result (λ left. left + done_of load ≡ geography_rows (geography_model_of load))
  pub same : OnErr result (load ≡ was)
  pub loading : y.loading ≡ x.loading
  pub err : IfErr result (λ e. BatchRefused was rows x e y.halted (pages_of y))

-- the desk shows the geography of a load, or stays as it was and the load comes back
pub record SealsLoad {D : Type 0} {g : Ghosts D} (load : Load) (x y : Clerk D g) (result : Result (Unit {0}) (StoreError × Load)) : Type 0 where
  pub moves : MovesIf (Stages x load) (sealed_desk (geography_model_of load)) x y
  pub sealed : OnOk result (desk_of y ≡ sealed_desk (geography_model_of load))
  pub unsealed : OnErr result (desk_of y ≡ desk_of x)
  pub back : IfErr result (λ e. e.1 ≡ load)
  pub loading : y.loading ≡ x.loading
  pub working : OnOk result ((x.halted ≡ false) × (y.halted ≡ false))
  pub quiet : y.halted ≡ false → OnErr result (IsQuiet (pages_of x) (pages_of y))
  pub err : IfErr result (λ e. SealRefused load x e.0 y.halted (pages_of y))

-- some rows that were left over are taken out, fewer than 15 only where no other was left
pub record SweepsSome {D : Type 0} {g : Ghosts D} (x y : Clerk D g) (result : Result ℕ StoreError) : Type 0 where
  pub maintains : Maintains x y result
  pub staged : (load : Load) → IsLast x load → Stages x load → Stages y load
  pub few : IfOk result (λ count. count ≤ 16)
  pub swept : (disk_of y).is_honest → (m : KeyMap) → HasRows x m → IfOk result (λ count. HasSwept x m count y)
  pub exact : (disk_of y).is_honest → (m : KeyMap) → HasRows x m → IfOk result (λ count. (count ≡ 0) ↔ IsClean x m)
  pub device : HaltsByDevice x y
  pub free : Keeps x → (disk_of y).is_honest → y.halted ≡ false → free_of x ≤ free_of y

-- at Ok the holdings of the store are sound, and the store is only read
pub record ChecksHolders {D : Type 0} {g : Ghosts D} (x y : Clerk D g) (result : Result (Unit {0}) StoreError) : Type 0 where
  pub maintains : Maintains x y result
  pub quiet : IsQuiet (pages_of x) (pages_of y)
  pub sound : (disk_of y).is_honest → (m : KeyMap) → HoldsRows (pages_of x) m → OnOk result (AreSoundHoldings m)
