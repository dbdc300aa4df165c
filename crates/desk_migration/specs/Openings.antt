-- What no promise rests on, beside claim/Openings.antt.
use Rattle.std.specs.Prelude.{◌≡◌, ◌<◌, ℕ, Bool, true, false}
use Rattle.{desk_migration.specs.{claim.Migrating.{disk_of, Keeps}, declared.migration.Migration.Migration}, desk_model.specs.claim.Desk.Desk}
use Rattle.{desk_store_opening.specs.Opening.IsReadFrom, desk_store_pages.specs.{Openings.{AllOld, HasPages, OpensOneOf}, claim.Desks.InPagesOf}}
use Rattle.desk_store_pages.specs.{claim.Openings.{AllVersions, IsOneOld}, declared.error.StoreError.{StoreError, TheVariants.{NotAStore, DeviceFault, Memory, AlreadyNew}}}
use Rattle.{desk_store_rows.specs.claim.{Keys.version, Rows.{KeyMap, row_in}, Tidy.version_row}, page_btree.specs.gets.claim.Map.Holds, page_store.specs.declared.pages.Pages.Pages}
use Rattle.page_store.specs.{claim.{Chain.{root_in, free_in}, Transactions.{stored, disk_in, count_of, journal_of, has_halted}}, gate_journal.{Recovery.Found, claim.Store.pages}}
use Rattle.sector_device.specs.{claim.Disk.{Disk, Image}, declared.SectorDevice.Ghosts}

-- n pages hold rows of this version alone
abbrev pub AreOfVersion : Bool → ℕ → Image → Type 0
AreOfVersion new n P = (m : KeyMap) → Holds n P (root_in P) (free_in P) m → row_in m version ≡ version_row new

-- a desk is read from the rows that n pages hold
abbrev pub AreRead : ℕ → Image → Type 0
AreRead n P = (m : KeyMap) → Holds n P (root_in P) (free_in P) m → (d : Desk) × IsReadFrom m d

-- The pages are those of a store that was there. Its rows are of the old version, and a desk is read from them.
pub record IsFound {D : Type 0} {g : Ghosts D} (old : Disk) (x : Migration D g) : Type 0 where
  pub pages : Found (journal_of x.pages) (count_of x.pages) old (disk_of x)
  pub version : AreOfVersion false (count_of x.pages) (stored x.pages)
  pub read : AreRead (count_of x.pages) (stored x.pages)

-- The pages are those of a store that was there. Its rows are of the new version, and a desk is read from them.
pub record IsFoundNew (old new : Disk) : Type 0 where
  pub J : ℕ
  pub n : ℕ
  pub found : Found J n old new
  pub version : AreOfVersion true n (pages J new.reads)
  pub read : AreRead n (pages J new.reads)

-- what is opened keeps one that was there in the old version
abbrev pub KeepsOne : {D : Type 0} {g : Ghosts D} → Disk → Migration D g → Type 0
KeepsOne old x = (d : Desk) × (Keeps x d × IsOneOld old d)

-- where each image that a stop might have left opened to a desk, in either version, each now opens to one that was there in the new version
abbrev pub LeavesNew : Disk → Disk → Type 0
LeavesNew old new = AllVersions old → (c : Image) → new.leaves c → OpensOneOf old c

-- why a device is not opened, by what it is like afterwards
abbrev pub IsRefused : Disk → Disk → StoreError → Type 0
IsRefused old new NotAStore = new.is_honest → AllVersions old → ⊥
IsRefused old new DeviceFault = new.is_honest → old.faults < new.faults
IsRefused old new Memory = new.is_honest → HasPages old new
IsRefused old new AlreadyNew = new.is_honest → IsFoundNew old new × (AllOld old → ⊥)
IsRefused old new _ = ⊥

-- ---- within a call
module _ {D : Type 0} {g : Ghosts D} where
  -- the pages hold a desk in no version; the device failed; a growth was refused; or they hold one in the new version, and it was read
  abbrev pub JudgeErr : Pages D g → Pages D g → StoreError → Type 0
  JudgeErr old new NotAStore = (disk_in new).is_honest → (is : Bool) (d : Desk) → InPagesOf is old d → ⊥
  JudgeErr old new DeviceFault = has_halted new ≡ true
  JudgeErr old new Memory = Unit {0}
  JudgeErr old new AlreadyNew = (disk_in new).is_honest → AreOfVersion true (count_of old) (stored old) × AreRead (count_of old) (stored old)
  JudgeErr old new _ = ⊥
