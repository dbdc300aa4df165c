-- What calls of a migration leave, each in one relation.
use Rattle.std.specs.Prelude.{◌≡◌, ◌≢◌, ◌≤◌, false, OnOk, IfOk, IfErr, Result, ◌*◌, true, Err, ℕ, IsErr}
use Rattle.desk_migration.specs.{Openings.{IsFound, IsRefused, KeepsOne, LeavesNew}, Outcomes.{PutsMore, TellsEnd}, Puts.{StepErr, FinishErr}, claim.Openings.device_after}
use Rattle.desk_migration.specs.{claim.Migrating.{disk_of, has_ended, is_halted, sectors_of, free_of, Moves, Ends, Keeps, KeepsNew}, declared.migration.Migration.Migration}
use Rattle.{desk_model.specs.claim.Desk.Desk, desk_store_pages.specs.{Openings.IsSpared, claim.Openings.{AllVersions, LeavesOneAs}, declared.error.StoreError.StoreError}}
use Rattle.{desk_store_pages.specs.declared.error.StoreError.TheVariants.{AlreadyNew, DeviceFault, Halted, NotAStore}, sector_device.specs.declared.SectorDevice.Ghosts}

-- a migration is opened over a desk in the old version, or the device comes back; a stop leaves the desk that was there
pub record OpensMigration {D : Type 0} (g : Ghosts D) (device : D) (result : Result (Migration D g) (StoreError × D)) : Type 0 where
  pub sectors : (g.disk (device_after result)).sectors ≡ (g.disk device).sectors
  pub honest : (g.disk (device_after result)).is_honest → (g.disk device).is_honest
  pub any_moment : LeavesOneAs (g.disk device) (g.disk (device_after result))
  pub opened : AllVersions (g.disk device) → IfOk result (λ x. (disk_of x).is_honest → KeepsOne (g.disk device) x)
  pub found : IfOk result (λ x. (disk_of x).is_honest → IsFound (g.disk device) x)
  pub begins : IfOk result (λ x. has_ended x ≡ false)
  pub working : IfOk result (λ x. (is_halted x ≡ false) × (sectors_of x ≡ (g.disk device).sectors))
  pub passed : (g.disk (device_after result)).is_honest → OnOk result ((g.disk (device_after result)).faults ≡ (g.disk device).faults)
  pub faults : (g.disk (device_after result)).is_honest → (g.disk device).faults ≤ (g.disk (device_after result)).faults
  pub calm : IfErr result (λ e. (g.disk e.1).is_honest → e.0 ≢ DeviceFault → (g.disk e.1).faults ≡ (g.disk device).faults)
  pub err : IfErr result (λ e. IsRefused (g.disk device) (g.disk e.1) e.0)
  pub already : IfErr result (λ e. (g.disk e.1).is_honest → e.0 ≡ AlreadyNew → LeavesNew (g.disk device) (g.disk e.1))
  pub untouched : IfErr result (λ e. (g.disk e.1).is_honest → e.0 ≡ NotAStore → IsSpared (g.disk device) (g.disk e.1))

-- a step puts 16 rows at most, and none only at the end
pub record TakesStep {D : Type 0} {g : Ghosts D} (x y : Migration D g) (result : Result ℕ StoreError) : Type 0 where
  pub moves : Moves x y
  pub few : IfOk result (λ count. count ≤ 16)
  pub put : PutsMore x y result
  pub exact : TellsEnd x y result
  pub ended : IfOk result (λ count. count ≡ 0 → has_ended y ≡ true)
  pub room : (disk_of y).is_honest → IfOk result (λ count. 13 * count ≤ free_of x)
  pub working : OnOk result ((is_halted x ≡ false) × (is_halted y ≡ false))
  pub still : is_halted x ≡ true → result ≡ Err Halted
  pub err : IfErr result (λ e. StepErr x.from x.pages y.pages e)

-- at Ok the desk is in the new version, else it stays in the old one
pub record Finishes {D : Type 0} {g : Ghosts D} (x y : Migration D g) (result : Result (Unit {0}) StoreError) : Type 0 where
  pub ends : Ends x y
  pub told : (disk_of y).is_honest → OnOk result ((d : Desk) → Keeps x d → KeepsNew y d)
  pub stays : IsErr result → is_halted y ≡ false → (d : Desk) → Keeps x d → Keeps y d
  pub room : (disk_of y).is_honest → OnOk result (13 ≤ free_of x)
  pub working : OnOk result ((is_halted x ≡ false) × (is_halted y ≡ false))
  pub still : is_halted x ≡ true → result ≡ Err Halted
  pub err : IfErr result (λ e. FinishErr x.pages y.pages e)
