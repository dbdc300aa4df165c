-- What no promise rests on, beside claim/Commits.antt.
use Rattle.std.specs.Prelude.{◌≡◌, ◌⊎◌, ◌<◌, ◌+◌, ℕ, true, false, Result, OnOk, IfErr}
use Rattle.{desk_model.specs.claim.Desk.Desk, desk_store_pages.specs.{claim.Desks.{InTxn as DeskInTxn, InPages as DeskInPages, OpensDesk}, declared.error.StoreError.StoreError}}
use Rattle.{desk_store_rows.specs.claim.Rows.KeyMap, page_btree.specs.gets.Map.OpensMap, page_store.specs.{claim.Chain.IsPages, declared.{pages.Pages.Pages, txn.Txn.Txn}}}
use Rattle.page_store.specs.{claim.Transactions.{stored, disk_in, count_of, journal_of, has_halted, txn_writes, HasFailed, HasShape, IsKept, IsSame}, gate_journal.claim.Store.home}
use Rattle.{page_store.specs.gate_journal.declared.error.PageError.{PageError, TheVariants.{DeviceFault, Halted, TooManyPages, Memory}}, sector_device.specs.claim.Disk.Image}
use Rattle.sector_device.specs.{claim.Moments.LeavesOnly, declared.SectorDevice.Ghosts}
use Rattle.desk_store_pages.specs.declared.error.StoreError.TheVariants as store

-- an image opens to the map, and to pages that hold a root and free pages
pub record OpensRows (sectors : ℕ) (m : KeyMap) (c : Image) : Type 0 where
  pub map : OpensMap sectors m c
  pub sound : IsPages map.n map.P

-- why a transaction is not committed: but for a fault, the pages are as they were
abbrev pub TxnErr : {D : Type 0} {g : Ghosts D} → Txn → Pages D g → Pages D g → PageError → Type 0
TxnErr t old new DeviceFault = HasFailed old new
TxnErr t old new Halted = (has_halted old ≡ true) × IsSame old new
TxnErr t old new TooManyPages = (has_halted old ≡ false) × (journal_of old < txn_writes t + 1) × IsSame old new
TxnErr t old new Memory = new ≡ old
TxnErr t old new _ = ⊥

module _ {D : Type 0} {g : Ghosts D} where
  -- what a stop in a commit leaves of pages that work: the desk before, or the one that the transaction reads
  abbrev pub Leaves : Txn → Pages D g → Pages D g → Type 0
  Leaves t old new = (sectors : ℕ) (d next : Desk) → home (journal_of old) + count_of old ≡ sectors → DeskInPages old d
      → DeskInTxn t (stored old) next → LeavesOnly (λ c. OpensDesk sectors d c ⊎ OpensDesk sectors next c) (disk_in old) (disk_in new)

  -- What a commit comes to: it was made, and what the pages hold is kept, with no fault of the device; or it is told why not.
  pub record Commits {T E : Type 0} (failed : E → Type 0) (old new : Pages D g) (result : Result T E) : Type 0 where
    pub shape : HasShape old new
    pub honest : (disk_in new).is_honest → (disk_in old).is_honest
    pub kept : (disk_in new).is_honest → OnOk result (IsKept new)
    pub passed : (disk_in new).is_honest → OnOk result ((disk_in new).faults ≡ (disk_in old).faults)
    pub ok : OnOk result ((has_halted old ≡ false) × (has_halted new ≡ false))
    pub err : IfErr result failed

  -- why pages that work, and for which the journal has room, are not committed
  abbrev pub FittingErr : Pages D g → Pages D g → StoreError → Type 0
  FittingErr old new store.Memory = new ≡ old
  FittingErr old new store.DeviceFault = HasFailed old new
  FittingErr old new _ = ⊥
