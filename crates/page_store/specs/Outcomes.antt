-- What calls on transactions leave, in one relation a clause.
use Rattle.std.specs.Prelude.{◌≡◌, ◌⊎◌, ◌≤◌, ◌+◌, ◌-◌, ℕ, false, List, ◌∷◌, length, Option, MatchOption, Result, IfOk, OnOk, OnErr, IsOk}
use Rattle.{gate_journal.specs.{Store.IsBeforeOrAfter, Writes.IsEdited}, page_store.specs.{Transactions.{txn_list, txn_first, IsWritten}, claim.Chain.chain, declared.txn.Txn.Txn}}
use Rattle.page_store.specs.claim.Transactions.{stored, disk_in, count_of, journal_of, has_halted, HasShape, IsKept, txn_pages, txn_root, txn_writes, txn_free, over, free_over}
use Rattle.{page_store.specs.declared.pages.Pages.Pages, sector_device.specs.{claim.{Disk.Image, Moments.LeavesOnly}, declared.SectorDevice.Ghosts}}

-- a page that it writes was changed by the step; with one that it doesn't, nothing was
abbrev pub EditsPage : {R : Type 0} → (List ℕ → R → List ℕ → Type 0) → ℕ → Txn → Txn → Option R → Type 0
EditsPage step p old new result =
    MatchOption result ((IsWritten old p → ⊥) × (new ≡ old)) (λ told. IsWritten old p × IsEdited step told (txn_list old) (txn_list new) p)

-- its root and its number of pages are the same
pub record KeepsRoot (old new : Txn) : Type 0 where
  pub pages : txn_pages new ≡ txn_pages old
  pub root : txn_root new ≡ txn_root old

-- one page at most is written anew, of which it is noted; where that fails, nothing changed
pub record WritesPage {A E : Type 0} (p : ℕ) (old new : Txn) (result : Result A E) : Type 0 where
  pub pages : txn_pages new ≡ txn_pages old
  pub root : txn_root new ≡ txn_root old
  pub more : OnOk result (txn_writes new ≤ txn_writes old + 1)
  pub again : OnOk result (IsWritten old p → txn_writes new ≡ txn_writes old)
  pub noted : OnOk result ((q : ℕ) → (q ≡ p) ⊎ IsWritten old q → IsWritten new q)
  pub same : OnErr result ((P : Image) → (over new P ≡ over old P) × (free_over new P ≡ free_over old P))
  pub unwritten : OnErr result (txn_list new ≡ txn_list old)

module _ {D : Type 0} {g : Ghosts D} where
  -- a commit keeps the pages' number and the journal's size; at Ok each image that a stop may leave has it, and no fault was met
  pub record Commits {A E : Type 0} (old new : Pages D g) (result : Result A E) : Type 0 where
    pub shape : HasShape old new
    pub honest : (disk_in new).is_honest → (disk_in old).is_honest
    pub kept : (disk_in new).is_honest → OnOk result (IsKept new)
    pub passed : (disk_in new).is_honest → OnOk result ((disk_in new).faults ≡ (disk_in old).faults)

  -- the number that was read is that of the free page after the first
  abbrev pub TellsNextFree : {E : Type 0} → Txn → Pages D g → Pages D g → Result ℕ E → Type 0
  TellsNextFree t old new result =
      (disk_in new).is_honest
      → IfOk result (λ next. free_over t (stored old) ≡ txn_first t ∷ chain (over t (stored old)) next (txn_free t - 1))

  -- a commit of writes to pages that had not halted, on an honest device: each image that a stop leaves has all of them or none
  abbrev pub LeavesAllOrNone : List (ℕ × List ℕ) → Pages D g → Pages D g → Type 0
  LeavesAllOrNone ws old new =
      (disk_in new).is_honest → has_halted old ≡ false
      → LeavesOnly (IsBeforeOrAfter (journal_of old) (count_of old) ws (stored old)) (disk_in old) (disk_in new)

  -- where there is room for them and the device doesn't fail, they are committed
  abbrev pub IsCommittedWithoutFault : {T E : Type 0} → List (ℕ × List ℕ) → Pages D g → Pages D g → Result T E → Type 0
  IsCommittedWithoutFault ws old new result =
      has_halted old ≡ false → length ws ≤ journal_of old → (disk_in new).is_honest → (disk_in new).faults ≡ (disk_in old).faults
      → IsOk result
