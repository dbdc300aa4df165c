-- What commits leave, each in one relation.
use Rattle.std.specs.Prelude.{◌≡◌, ◌≤◌, ◌+◌, length, IfOk, IfErr, Result, true, false, Err, OnOk, IsErr}
use Rattle.desk_store_pages.specs.{Commits.{OpensRows, TxnErr, Leaves, FittingErr}, Desks.{InTxnAs, InPagesAs}, Moments.StopsLeaveEither, claim.Commits.HoldsAfter}
use Rattle.desk_store_pages.specs.{claim.Desks.{InTxn as DeskInTxn, InPages as DeskInPages, OpensDesk, OpensAs}, declared.error.StoreError.StoreError}
use Rattle.{desk_store_rows.specs.claim.Rows.KeyMap, page_btree.specs.gets.claim.Map.{InTxn, InPages}, page_store.specs.{Outcomes.Commits, claim.Chain.free_in}}
use Rattle.page_store.specs.claim.Transactions.{txn_pages, txn_writes, txn_free, prepared_pages, prepared_writes, after, stored, disk_in, has_halted, IsSame, CommitErr}
use Rattle.page_store.specs.{declared.{pages.Pages.Pages, txn.{Prepared.Prepared, Txn.Txn}}, gate_journal.declared.error.PageError.{PageError, TheVariants.{Memory, Halted}}}
use Rattle.sector_device.specs.{claim.Disk.Image, declared.SectorDevice.Ghosts}

-- what is prepared holds the map that the transaction reads
pub record PreparesRows (txn : Txn) (result : Result Prepared PageError) : Type 0 where
  pub pages : IfOk result (λ made. prepared_pages made ≡ txn_pages txn)
  pub held : IfOk result (λ made. (P : Image) (m : KeyMap) → InTxn txn P m → HoldsAfter made P m)
  pub more : IfOk result (λ made. length (prepared_writes made) ≤ txn_writes txn + 1)
  pub err : IfErr result (λ e. e ≡ Memory)
  pub free : IfOk result (λ made. (P : Image) (m : KeyMap) → InTxn txn P m → length (free_in (after made P)) ≡ txn_free txn)

-- the pages hold the map that was prepared, or the one before, whenever a stop comes
pub record CommitsRows {D : Type 0} {g : Ghosts D} (prepared : Prepared) (old new : Pages D g) (result : Result (Unit {0}) PageError) : Type 0 where
  pub commits : Commits old new result
  pub any_moment : StopsLeaveEither (InPages old) (HoldsAfter prepared (stored old)) OpensRows old new
  pub held : (disk_in new).is_honest → OnOk result ((next : KeyMap) → HoldsAfter prepared (stored old) next → InPages new next)
  pub ok : OnOk result ((has_halted old ≡ false) × (has_halted new ≡ false))
  pub still : has_halted old ≡ true → (result ≡ Err Halted) × IsSame old new
  pub err : IfErr result (λ e. CommitErr (length (prepared_writes prepared)) old new e)
  pub after : (disk_in new).is_honest → OnOk result (stored new ≡ after prepared (stored old))

-- the pages hold the desk that the transaction reads, or the one before, in its version, whenever a stop comes
pub record CommitsTxn {D : Type 0} {g : Ghosts D} (txn : Txn) (old new : Pages D g) (result : Result (Unit {0}) PageError) : Type 0 where
  pub commits : Commits old new result
  pub any_moment : StopsLeaveEither (DeskInPages old) (DeskInTxn txn (stored old)) OpensDesk old new
  pub any_version : StopsLeaveEither (InPagesAs old) (InTxnAs txn (stored old)) OpensAs old new
  pub held : (disk_in new).is_honest → OnOk result ((m : KeyMap) → InTxn txn (stored old) m → InPages new m)
  pub ok : OnOk result ((has_halted old ≡ false) × (has_halted new ≡ false))
  pub still : has_halted old ≡ true → IsErr result × IsSame old new
  pub err : IfErr result (λ e. TxnErr txn old new e)

-- the same of a transaction for which the journal has room
pub record CommitsFitting {D : Type 0} {g : Ghosts D} (txn : Txn) (old new : Pages D g) (result : Result (Unit {0}) StoreError) : Type 0 where
  pub commits : Commits old new result
  pub any_moment : (disk_in new).is_honest → Leaves txn old new
  pub any_version : StopsLeaveEither (InPagesAs old) (InTxnAs txn (stored old)) OpensAs old new
  pub held : (disk_in new).is_honest → OnOk result ((m : KeyMap) → InTxn txn (stored old) m → InPages new m × (length (free_in (stored new)) ≡ txn_free txn))
  pub ok : OnOk result (has_halted new ≡ false)
  pub err : IfErr result (λ e. FittingErr old new e)
