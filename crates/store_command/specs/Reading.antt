-- What comes of a device by what it reads as. A stop leaves what a synced device reads, so nothing here is said of what else a stop
-- may leave.
use Rattle.std.specs.Prelude.{◌≡◌, ◌≢◌, ℕ}
use Rattle.{desk_model.specs.claim.Desk.Desk, desk_store_pages.specs.{claim.Desks.{OpensDesk, OpensOld, OpensEither}, declared.error.StoreError.StoreError}}
use Rattle.{desk_store_pages.specs.declared.error.StoreError.TheVariants.{NotAStore, OldVersion, AlreadyNew}, desk_theorem.specs.runs.claim.Lives.{Life, left_by, Finds}}
use Rattle.desk_theorem.specs.runs.{claim.Recovery.HoldsEither, desk_migration.claim.Migrating.{disk_of as migrated_disk, Keeps as KeepsOld}, desk_store.declared.clerk.Clerk.Clerk}
use Rattle.{desk_theorem.specs.runs.{desk_migration.declared.migration.Migration.Migration, desk_store.claim.Clerks.{desk_of, disk_of, Keeps}}, sector_device.specs.Disk.IsSynced}
use Rattle.sector_device.specs.{claim.{Disk.Disk, Moments.LeavesOnly}, declared.SectorDevice.Ghosts}

-- what the device reads opens to the desk, in the new version or in the old one
abbrev pub ReadsDesk : Disk → Desk → Type 0
ReadsDesk disk d = OpensDesk disk.sectors d disk.reads

abbrev pub ReadsOld : Disk → Desk → Type 0
ReadsOld disk d = OpensOld disk.sectors d disk.reads

-- at each moment between, a stop left what opens to the desk in this version
abbrev pub LeavesDesk : Disk → Disk → Desk → Type 0
LeavesDesk old new d = LeavesOnly (OpensDesk old.sectors d) old new

abbrev pub LeavesOld : Disk → Disk → Desk → Type 0
LeavesOld old new d = LeavesOnly (OpensOld old.sectors d) old new

module _ {D : Type 0} {g : Ghosts D} where
  -- A clerk who opened the device, which reads as this desk: the desk is shown and kept, and a stop at any moment of the opening left it.
  pub record ShowsDesk (device : D) (x : Clerk D g) (d : Desk) : Type 0 where
    pub keeps : Keeps x
    pub desk : (disk_of x).is_honest → desk_of x ≡ d
    pub any_moment : (disk_of x).is_honest → LeavesDesk (g.disk device) (disk_of x) d

  abbrev pub ShowsWhatIsRead : D → Clerk D g → Type 0
  ShowsWhatIsRead device x = (d : Desk) → ReadsDesk (g.disk device) d → ShowsDesk device x d

  -- A migration for which the device was opened, which reads as this desk in the old version: the desk is kept, and a stop at any moment
  -- of the opening left it.
  pub record BeginsAt (device : D) (x : Migration D g) (d : Desk) : Type 0 where
    pub keeps : KeepsOld x d
    pub any_moment : LeavesOld (g.disk device) (migrated_disk x) d

  abbrev pub BeginsAtWhatIsRead : D → Migration D g → Type 0
  BeginsAtWhatIsRead device x = (migrated_disk x).is_honest → (d : Desk) → ReadsOld (g.disk device) d → BeginsAt device x d

-- A device that reads as a desk is not taken for what is no store, nor for a store of the other version, and a stop at any moment of the
-- opening that was refused left the desk.
pub record RefusesDesk (old new : Disk) (error : StoreError) (d : Desk) : Type 0 where
  pub a_store : error ≢ NotAStore
  pub of_today : error ≢ OldVersion
  pub any_moment : LeavesDesk old new d

pub record RefusesOld (old new : Disk) (error : StoreError) (d : Desk) : Type 0 where
  pub a_store : error ≢ NotAStore
  pub any_moment : LeavesOld old new d

pub record RefusesWhatIsRead (old new : Disk) (error : StoreError) : Type 0 where
  pub desk : (d : Desk) → ReadsDesk old d → RefusesDesk old new error d
  pub old_desk : (d : Desk) → ReadsOld old d → RefusesOld old new error d

-- the same of an opening for a migration
pub record BarsOld (old new : Disk) (error : StoreError) (d : Desk) : Type 0 where
  pub a_store : error ≢ NotAStore
  pub not_yet : error ≢ AlreadyNew
  pub any_moment : LeavesOld old new d

pub record BarsDesk (old new : Disk) (error : StoreError) (d : Desk) : Type 0 where
  pub a_store : error ≢ NotAStore
  pub any_moment : LeavesDesk old new d

pub record BarsWhatIsRead (old new : Disk) (error : StoreError) : Type 0 where
  pub old_desk : (d : Desk) → ReadsOld old d → BarsOld old new error d
  pub desk : (d : Desk) → ReadsDesk old d → BarsDesk old new error d

module _ {D : Type 0} (g : Ghosts D) where
  -- a synced device that reads as a desk, in either version, is one on which lives may begin
  abbrev pub HoldsWhatIsRead : Type 0
  HoldsWhatIsRead =
      (device : D) (d : Desk) → IsSynced (g.disk device) → OpensEither (g.disk device).sectors d (g.disk device).reads
      → HoldsEither (g.disk device) d

  -- and one that reads as an image which a stop in a life may have left is what the next life finds
  abbrev pub FindsWhatIsRead : Type 0
  FindsWhatIsRead =
      (life : Life g) (n : ℕ) (device : D) → (g.disk device).sectors ≡ n → IsSynced (g.disk device) → left_by life (g.disk device).reads
      → Finds g n (left_by life) device
