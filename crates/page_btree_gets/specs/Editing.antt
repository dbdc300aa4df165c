-- What an edit of a leaf alone leaves as it was, and why there is none.
use Rattle.std.specs.Prelude.{◌≡◌, ◌≤◌, ◌+◌, ℕ, List, true, Result, OnOk}
use Rattle.{page_btree_gets.specs.declared.error.TreeError.{TreeError, TheVariants.{DeviceFault, NotAStore, Halted, Memory}}, page_btree_node.specs.claim.Entries.Entry}
use Rattle.{page_btree_node.specs.claim.{Node.IsNode, Places.Rises}, page_store.specs.declared.{pages.Pages.Pages, txn.Txn.Txn}, sector_device.specs.claim.Disk.Image}
use Rattle.page_store.specs.claim.Transactions.{stored, disk_in, has_halted, HasFailed, txn_pages, txn_root, txn_free, txn_writes, over, free_over}
use Rattle.sector_device.specs.declared.SectorDevice.{Ghosts}

-- what a transaction reads, takes and writes is the same
pub record IsAlike (old new : Txn) : Type 0 where
  pub pages : txn_pages new ≡ txn_pages old
  pub root : txn_root new ≡ txn_root old
  pub free : txn_free new ≡ txn_free old
  pub writes : txn_writes new ≡ txn_writes old
  pub over_is : (P : Image) → over new P ≡ over old P
  pub free_is : (P : Image) → free_over new P ≡ free_over old P

-- ---- what a call costs, where it answers
module _ {A E : Type 0} where
  -- at most one page more is written, and none is taken or given back
  pub record WritesOne (old new : Txn) (result : Result A E) : Type 0 where
    pub writes : OnOk result (txn_writes new ≤ txn_writes old + 1)
    pub free : txn_free new ≡ txn_free old

  -- one page is taken, and at most one more is written
  pub record SpendsOne (old new : Txn) (result : Result A E) : Type 0 where
    pub writes : OnOk result (txn_writes new ≤ txn_writes old + 1)
    pub taken : OnOk result (txn_free old ≡ txn_free new + 1)

  -- at most so many pages more are written and taken, and none is given back
  pub record Spends (most_writes most_pages : ℕ) (old new : Txn) (result : Result A E) : Type 0 where
    pub writes : OnOk result (txn_writes new ≤ txn_writes old + most_writes)
    pub taken : OnOk result (txn_free old ≤ txn_free new + most_pages)
    pub none_back : OnOk result (txn_free new ≤ txn_free old)

  -- at most so many pages more are written and given back, and none is taken
  pub record Frees (count : ℕ) (old new : Txn) (result : Result A E) : Type 0 where
    pub writes : OnOk result (txn_writes new ≤ txn_writes old + count)
    pub given : OnOk result (txn_free old ≤ txn_free new)
    pub most : OnOk result (txn_free new ≤ txn_free old + count)

module _ {D : Type 0} {g : Ghosts D} where
  -- why the leaf at a page isn't edited
  abbrev pub LeafErr : ℕ → Txn → Pages D g → Pages D g → TreeError → Type 0
  LeafErr page t old new DeviceFault = HasFailed old new
  LeafErr page t old new NotAStore = (disk_in new).is_honest → (es : List Entry)
      → IsNode (over t (stored old) page) (record { level = 0; entries = es }) → Rises es → ⊥
  LeafErr page t old new Halted = has_halted old ≡ true
  LeafErr page t old new Memory = Unit {0}
  LeafErr page t old new _ = ⊥
