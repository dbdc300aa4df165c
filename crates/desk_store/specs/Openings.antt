-- What no promise rests on, beside claim/Openings.antt.
use Rattle.std.specs.Prelude.{◌≡◌, ◌<◌, ℕ}
use Rattle.{desk_model.specs.claim.Desk.Desk, desk_store.specs.{claim.Clerks.{desk_of, disk_of, pages_of}, declared.clerk.Clerk.Clerk}, desk_store_opening.specs.Held.AreOld}
use Rattle.{desk_store_opening.specs.Opening.IsReadFrom, desk_store_pages.specs.{Openings.{AllDesks, HasPages}, claim.{Desks.InPages, Openings.AllVersions}}}
use Rattle.{desk_store_pages.specs.declared.error.StoreError.{StoreError, TheVariants.{NotAStore, DeviceFault, Memory, OldVersion}}, desk_store_rows.specs.claim.Rows.{KeyMap, Has}}
use Rattle.{desk_store_rows.specs.claim.Keys.{version, in_four}, page_btree.specs.gets.claim.Map.InPages as HasRows, page_store.specs.claim.Transactions.{count_of, journal_of}}
use Rattle.{page_store.specs.gate_journal.{Recovery.Found, claim.Store.pages}, sector_device.specs.{claim.Disk.Disk, declared.SectorDevice.Ghosts}}

-- The pages of a store that was there, as they were. They hold rows, or their list of free pages goes on where it is to end; and the
-- rows that they hold tell no version.
pub record IsOldStore (old new : Disk) : Type 0 where
  pub J : ℕ
  pub n : ℕ
  pub found : Found J n old new
  pub rows : AreOld n (pages J found.was)

-- The clerk's pages are those of a store that was there, their rows tell the new version, and the desk that they hold is the one that is
-- shown. Of rows that are no desk's, what is shown is read from them.
pub record IsFound {D : Type 0} {g : Ghosts D} (old : Disk) (x : Clerk D g) : Type 0 where
  pub pages : Found (journal_of (pages_of x)) (count_of (pages_of x)) old (disk_of x)
  pub shown : (d : Desk) → InPages (pages_of x) d → desk_of x ≡ d
  pub read : (m : KeyMap) → HasRows (pages_of x) m → IsReadFrom m (desk_of x)
  pub version : (m : KeyMap) → HasRows (pages_of x) m → Has m version (in_four 2)

-- why a device is not opened, by what it is like before and after
abbrev pub DiskRefused : Disk → Disk → StoreError → Type 0
DiskRefused old new NotAStore = new.is_honest → AllVersions old → ⊥
DiskRefused old new DeviceFault = new.is_honest → old.faults < new.faults
DiskRefused old new Memory = new.is_honest → HasPages old new
DiskRefused old new OldVersion = new.is_honest → IsOldStore old new × (AllDesks old → ⊥)
DiskRefused old new _ = ⊥

abbrev pub OpenRefused : {D : Type 0} (g : Ghosts D) → D → D → StoreError → Type 0
OpenRefused g old new e = DiskRefused (g.disk old) (g.disk new) e

-- What a clerk's store keeps opens again, whenever a stop comes.
abbrev pub Reopens : {D : Type 0} {g : Ghosts D} → Clerk D g → Type 0
Reopens x = AllDesks (disk_of x)
