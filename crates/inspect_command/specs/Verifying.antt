-- A store that is verified.
use Rattle.std.specs.{Prelude.{◌≡◌, ◌⊎◌, ◌<◌, ℕ, Bool, true, false, List, codes, Option, Some, None, Result, Ok, Err, IfOk, IfErr, Vec}, declared.alloc.Global.Global}
use Rattle.{command_output.specs.{claim.Writing.{Written, Prints, write_fault_line}, declared.status.Status.{Status, TheVariants.Done}}, desk_model.specs.Ranges.ranges_in}
use Rattle.{desk_model.specs.claim.Desk.Desk, desk_store_pages.specs.{Openings.{HasPages, IsSpared, StillStands}, claim.Desks.InPages as HoldsDesk}}
use Rattle.{desk_store_rows.specs.claim.Rows.KeyMap, inspect_command.specs.{Sound.{HasSound, HasStray}, SoundTexts.{verified_text, TellsRefusal}, declared.refusal.Refusal.Refusal}}
use Rattle.{inspect_command.specs.declared.verifying.Verified.Verified, page_btree.specs.checks.{Faults.IsWrongPage, Owners.AreOwned, declared.error.PageFault.PageFault}}
use Rattle.{page_btree.specs.{checks.declared.error.PagesError.PagesError, gets.claim.Map.InPages}, page_store.specs.{declared.pages.Pages.Pages, gate_journal.Recovery.Found}}
use Rattle.{page_store.specs.claim.Transactions.{stored, disk_in, device_in, count_of, journal_of, has_halted, IsQuiet}, sector_device.specs.declared.SectorDevice.Ghosts}
use Rattle.store_command.specs.{Filling.WhereItReads, Reading.LeavesDesk, declared.fault.StoreFault.StoreFault, desk_theorem.claim.{Device.OnDevice, OneLife.ReadHolds}}
use Rattle.store_command.specs.declared.fault.StoreFault.TheVariants.{NotFound, WrongSize, Exists, TooSmall, NotAStore, OldVersion, AlreadyNew, AlreadySealed, Full, DeviceFault, Memory}
use Rattle.store_verification.specs.rows.{Strays.AllBelong, declared.wrong.WrongRow.WrongRow}
use Rattle.page_btree.specs.checks.declared.error.PagesError.TheVariants as owners

module _ {D : Type 0} {g : Ghosts D} where
  -- what was found in pages: so many are there, and what rows they hold are those of a desk
  pub record HoldsSound (ps : Pages D g) (found : Verified) : Type 0 where
    pub pages : found.pages ≡ count_of ps
    pub sound : (disk_in ps).is_honest → (m : KeyMap) → InPages ps m → HasSound found.rows m

  -- and each page has one owner
  pub record HoldsOwned (ps : Pages D g) (found : Verified) : Type 0 where
    pub sound : HoldsSound ps found
    pub owned : (disk_in ps).is_honest → AreOwned (count_of ps) (stored ps)

  -- why pages aren't found to hold a desk; after a device's failure they are halted
  abbrev pub Unsound : Pages D g → Pages D g → StoreFault → Type 0
  Unsound old new NotAStore = (disk_in new).is_honest → (d : Desk) → HoldsDesk old d → ⊥
  Unsound old new OldVersion = (disk_in new).is_honest → (d : Desk) → HoldsDesk old d → ⊥
  Unsound old new DeviceFault = has_halted new ≡ true
  Unsound old new Memory = Unit {0}
  Unsound old new _ = ⊥

module _ {D : Type 0} {g : Ghosts D} where
  -- what is told of a page is so, and pages aren't what their owners make of them, or have other owners than one
  pub record IsUnowned (ps : Pages D g) (page : PageFault) : Type 0 where
    pub unowned : (disk_in ps).is_honest → AreOwned (count_of ps) (stored ps) → ⊥
    pub told : (disk_in ps).is_honest → IsWrongPage (count_of ps) (stored ps) page.page page.kind

  -- a row that is told is one of the rows that the pages hold, and doesn't belong; they hold no desk whose rows all belong
  pub record HoldsStray (ps : Pages D g) (row : WrongRow) : Type 0 where
    pub stray : (disk_in ps).is_honest → (m : KeyMap) → InPages ps m → HasStray m row.key
    pub unfit : (disk_in ps).is_honest → (d : Desk) (h : HoldsDesk ps d) → AllBelong (ranges_in d.geography) h.m → ⊥

  -- such a page or row
  abbrev pub NamesPageOrRow : Pages D g → Option PageFault → Option WrongRow → Type 0
  NamesPageOrRow ps (Some page) row = IsUnowned ps page
  NamesPageOrRow ps None (Some row) = HoldsStray ps row
  NamesPageOrRow ps None None = ⊥

-- the store is none for what is told; else for another reason
abbrev pub StrayOr : Bool → StoreFault → (part other : Type 0) → Type 0
StrayOr true fault part other = (fault ≡ NotAStore) × part
StrayOr false fault part other = other

module _ {D : Type 0} {g : Ghosts D} where
  abbrev pub IsUnsound : Pages D g → Pages D g → Refusal → Type 0
  IsUnsound old new refusal = StrayOr refusal.is_stray refusal.fault (NamesPageOrRow new refusal.page refusal.row) (Unsound old new refusal.fault × (refusal.page ≡ None))

  -- what a look at a store tells: no page changed, and of what was found so much holds, with its rows; else why the store isn't sound
  pub record VerifiesPages (is_told : ℕ → Type 0) (holds : Verified → Type 0) (old new : Pages D g) (result : Result Verified Refusal) : Type 0 where
    pub quiet : IsQuiet old new
    pub told : IfOk result (λ found. is_told found.rows)
    pub sound : IfOk result holds
    pub err : IfErr result (IsUnsound old new)

-- what is told of pages that aren't found to be owned
abbrev pub TellsPages : PagesError → Refusal → Type 0
TellsPages (owners.Unsound page) refusal = (refusal.is_stray ≡ true) × (refusal.fault ≡ NotAStore) × (refusal.page ≡ Some page)
TellsPages owners.DeviceFault refusal = (refusal.is_stray ≡ false) × (refusal.fault ≡ DeviceFault) × (refusal.page ≡ None)
TellsPages owners.Halted refusal = (refusal.is_stray ≡ false) × (refusal.fault ≡ DeviceFault) × (refusal.page ≡ None)
TellsPages owners.Memory refusal = (refusal.is_stray ≡ false) × (refusal.fault ≡ Memory) × (refusal.page ≡ None)

module _ {D : Type 0} (g : Ghosts D) where
  -- Why a device isn't found to hold a desk: where it reads as one, it failed, or memory was refused.
  abbrev pub IsRefused : (device left : D) → StoreFault → Type 0
  IsRefused device left NotAStore = WhereItReads (g.disk device) (g.disk left) (λ d. ⊥)
  IsRefused device left OldVersion = WhereItReads (g.disk device) (g.disk left) (λ d. ⊥)
  IsRefused device left DeviceFault = (g.disk left).is_honest → (g.disk device).faults < (g.disk left).faults
  IsRefused device left Memory = Unit {0}
  IsRefused device left _ = ⊥

  -- Nothing was written but what a stop in a commit left to be done: where the device reads as a desk, a stop at any moment leaves it. So
  -- this is one life, in which the store of either version stays.
  pub record IsLookedAt (device left : D) : Type 0 where
    pub sectors : (g.disk left).sectors ≡ (g.disk device).sectors
    pub honest : (g.disk left).is_honest → (g.disk device).is_honest
    pub any_moment : WhereItReads (g.disk device) (g.disk left) (λ d. LeavesDesk (g.disk device) (g.disk left) d)
    pub life : OnDevice ReadHolds (g.disk device) (g.disk left)

  -- Pages and header stand as they were found, and nothing else was written. Of what isn't opened for want of memory that is said of the
  -- pages alone, and nothing where the device failed.
  abbrev pub IsSparedFor : (device left : D) → StoreFault → Type 0
  IsSparedFor device left NotFound = (g.disk left).is_honest → IsSpared (g.disk device) (g.disk left)
  IsSparedFor device left WrongSize = (g.disk left).is_honest → IsSpared (g.disk device) (g.disk left)
  IsSparedFor device left Exists = (g.disk left).is_honest → IsSpared (g.disk device) (g.disk left)
  IsSparedFor device left TooSmall = (g.disk left).is_honest → IsSpared (g.disk device) (g.disk left)
  IsSparedFor device left NotAStore = (g.disk left).is_honest → IsSpared (g.disk device) (g.disk left)
  IsSparedFor device left OldVersion = (g.disk left).is_honest → IsSpared (g.disk device) (g.disk left)
  IsSparedFor device left AlreadyNew = (g.disk left).is_honest → IsSpared (g.disk device) (g.disk left)
  IsSparedFor device left AlreadySealed = (g.disk left).is_honest → IsSpared (g.disk device) (g.disk left)
  IsSparedFor device left Full = (g.disk left).is_honest → IsSpared (g.disk device) (g.disk left)
  IsSparedFor device left DeviceFault = Unit {0}
  IsSparedFor device left Memory = (g.disk left).is_honest → HasPages (g.disk device) (g.disk left)

  -- the pages that the device held were opened, and given back as they were; they are sound, and each has one owner
  pub record IsFoundSound (device : D) (told : Verified) (left : D) : Type 0 where
    pub ps : Pages D g
    pub back : left ≡ device_in ps
    pub found : (g.disk left).is_honest → Found (journal_of ps) (count_of ps) (g.disk device) (g.disk left)
    pub sound : HoldsOwned ps told

  -- they were, and a page or a row of them is wrong
  pub record IsFoundWrong (device left : D) (page : Option PageFault) (row : Option WrongRow) : Type 0 where
    pub ps : Pages D g
    pub back : left ≡ device_in ps
    pub found : (g.disk left).is_honest → Found (journal_of ps) (count_of ps) (g.disk device) (g.disk left)
    pub wrong : NamesPageOrRow ps page row

  -- what came of the device
  abbrev pub VerifiesDevice : D → Result Verified Refusal → D → Type 0
  VerifiesDevice device (Ok found) left = IsLookedAt device left × ((g.disk left).is_honest → StillStands (g.disk device) (g.disk left)) × IsFoundSound device found left
  VerifiesDevice device (Err refusal) left = IsLookedAt device left × IsSparedFor device left refusal.fault
      × StrayOr refusal.is_stray refusal.fault (IsFoundWrong device left refusal.page refusal.row) (IsRefused device left refusal.fault × (refusal.page ≡ None))

  -- the same, and the rows that were found are told as the last ones
  pub record VerifiesTelling (is_told : ℕ → Type 0) (device : D) (result : Result Verified Refusal) (left : D) : Type 0 where
    pub verified : VerifiesDevice device result left
    pub told : IfOk result (λ found. is_told found.rows)

-- the text is printed, or nothing is, and the refusal is told
abbrev pub EndsVerify : Result (Vec ℕ Global) Refusal → Status → (before after told_before told_after : Written) → Type 0
EndsVerify (Ok text) end before after told_before told_after = Prints (write_fault_line (codes "verify")) text.items Done end before after told_before told_after
EndsVerify (Err refusal) end before after told_before told_after = (after ≡ before) × TellsRefusal refusal end told_before told_after

module _ {D O : Type 0} (g : Ghosts D) (opens : O → List ℕ → Result D StoreFault → O → Type 0) (closes : O → D → O → Type 0) where
  -- the device of the name was opened, and closed as it was left
  pub record IsVerified (before : O) (name : List ℕ) (told : Result Verified Refusal) (after : O) : Type 0 where
    pub device : D
    pub middle : O
    pub opened : opens before name (Ok device) middle
    pub left : D
    pub verifies : VerifiesDevice g device told left
    pub closed : closes middle left after

  -- it was found to be sound, and memory for its text was refused
  abbrev pub IsUnprinted : (before : O) → List ℕ → Refusal → (after : O) → Type 0
  IsUnprinted before name refusal after = (refusal.fault ≡ Memory) × ((found : Verified) × IsVerified before name (Ok found) after)

  -- What comes of a store, with the text that is printed. Where memory for it is refused before, none is opened.
  abbrev pub Verifies : (before : O) → List ℕ → Result (Vec ℕ Global) Refusal → (after : O) → Type 0
  Verifies before name (Ok text) after = (found : Verified) × (text.items ≡ verified_text found) × IsVerified before name (Ok found) after
  Verifies before name (Err refusal) after = ((refusal.fault ≡ Memory) × (after ≡ before))
      ⊎ (opens before name (Err refusal.fault) after ⊎ (IsVerified before name (Err refusal) after ⊎ IsUnprinted before name refusal after))

  -- the store of the name is verified
  abbrev pub VerifiesStore : (stores stores_after : O) → List ℕ → Status → (before after told_before told_after : Written) → Type 0
  VerifiesStore stores stores_after name status before after told_before told_after = (given : Result (Vec ℕ Global) Refusal)
      × Verifies stores name given stores_after × EndsVerify given status before after told_before told_after
