-- Migrations of a store: what an opening for one comes to, and the steps of one.
use Rattle.std.specs.Prelude.{◌≡◌, false, Result, IfOk}
use Rattle.desk_migration.specs.{claim.{Migrating.{disk_of, is_halted, sectors_of, Keeps, Moves, Ends}, Openings.device_after}, declared.migration.Migration.Migration}
use Rattle.{desk_model.specs.claim.Desk.Desk, desk_store_pages.specs.{claim.Openings.{AllVersions, IsOneOld, LeavesOneAs}, declared.error.StoreError.StoreError}}
use Rattle.sector_device.specs.declared.SectorDevice.{Ghosts}

-- What an opening for a migration comes to. At each moment of it a stop leaves an image that opens to a desk to which one opened before,
-- in the same version; a migration that comes of it keeps one of these desks, in the old version, and has not halted.
pub record IsEntry {D : Type 0} (g : Ghosts D) (device : D) (result : Result (Migration D g) (StoreError × D)) : Type 0 where
  pub any_moment : LeavesOneAs (g.disk device) (g.disk (device_after result))
  pub opened : AllVersions (g.disk device) → IfOk result (λ x. (disk_of x).is_honest → (d : Desk) × (Keeps x d × IsOneOld (g.disk device) d))
  pub working : IfOk result (λ x. (is_halted x ≡ false) × (sectors_of x ≡ (g.disk device).sectors))

module _ {D : Type 0} {g : Ghosts D} where
  -- steps of a migration, and after them its end, where it comes to that
  pub data Migrates : Migration D g → Migration D g → Type 0 where
    over : (x : Migration D g) → Migrates x x
    went : (x : Migration D g) (y : Migration D g) (z : Migration D g) → Moves x y → Migrates y z → Migrates x z
    ended : (x : Migration D g) (z : Migration D g) → Ends x z → Migrates x z
