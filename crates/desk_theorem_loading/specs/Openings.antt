-- What an opening of a device comes to.
use Rattle.std.specs.Prelude.{◌≡◌, ◌≢◌, ◌≤◌, false, None}
use Rattle.desk_store.specs.{Openings.{IsFound, OpenRefused}, claim.Clerks.{desk_of, disk_of, is_halted, sectors_of, Keeps}, declared.clerk.Clerk.Clerk}
use Rattle.desk_store_pages.specs.{Openings.{IsSpared, LeavesOneOf}, claim.Openings.{AllVersions, IsOneOf, LeavesOneAs}, declared.error.StoreError.StoreError}
use Rattle.{desk_store_pages.specs.declared.error.StoreError.TheVariants.{DeviceFault, NotAStore}, sector_device.specs.declared.SectorDevice.Ghosts}

module _ {D : Type 0} {g : Ghosts D} where
  -- A clerk who opened the device: at each moment of it a stop left what opens to a desk to which one opened before. One of these is
  -- shown, and no load is under way.
  pub record IsOpened (device : D) (x : Clerk D g) : Type 0 where
    pub sectors : sectors_of x ≡ (g.disk device).sectors
    pub honest : (disk_of x).is_honest → (g.disk device).is_honest
    pub any_moment : LeavesOneOf (g.disk device) (disk_of x)
    pub any_version : LeavesOneAs (g.disk device) (disk_of x)
    pub keeps : AllVersions (g.disk device) → Keeps x
    pub one : AllVersions (g.disk device) → (disk_of x).is_honest → IsOneOf (g.disk device) (desk_of x)
    pub found : (disk_of x).is_honest → IsFound (g.disk device) x
    pub loading : x.loading ≡ None
    pub working : is_halted x ≡ false
    pub calm : (disk_of x).is_honest → (disk_of x).faults ≡ (g.disk device).faults

module _ {D : Type 0} (g : Ghosts D) where
  -- The device is not opened, and is left so: at each moment of it a stop left what opens to a desk to which one opened before, and
  -- what is no store stays as it is.
  pub record IsUnopened (device : D) (e : StoreError) (left : D) : Type 0 where
    pub sectors : (g.disk left).sectors ≡ (g.disk device).sectors
    pub honest : (g.disk left).is_honest → (g.disk device).is_honest
    pub any_moment : LeavesOneOf (g.disk device) (g.disk left)
    pub any_version : LeavesOneAs (g.disk device) (g.disk left)
    pub why : OpenRefused g device left e
    pub faults : (g.disk left).is_honest → (g.disk device).faults ≤ (g.disk left).faults
    pub calm : (g.disk left).is_honest → e ≢ DeviceFault → (g.disk left).faults ≡ (g.disk device).faults
    pub spared : (g.disk left).is_honest → e ≡ NotAStore → IsSpared (g.disk device) (g.disk left)
