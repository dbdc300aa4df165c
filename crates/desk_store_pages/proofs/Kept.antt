-- Pages that no fault has stopped, and what a transaction leaves of them.
use Rattle.{std.proofs.Common.{◌≡◌, ◌+◌, ℕ, Result, Ok, Err, OnOk, Bool, false}, desk_model.specs.claim.Desk.Desk, desk_store_pages.specs.claim.Commits.HoldsAfter}
use Rattle.{desk_store_pages.specs.claim.Desks.{InPagesOf, OpensDeskOf}, desk_store_rows.specs.claim.Rows.KeyMap, page_store.specs.declared.{pages.Pages.Pages, txn.Txn.Txn}}
use Rattle.{page_btree.specs.gets.claim.Map.{InTxn as TxnHolds, InPages as PagesHold}, page_store.specs.{declared.txn.Prepared.Prepared, gate_journal.claim.Store.home}}
use Rattle.{page_store.specs.claim.Transactions.{stored, disk_in, count_of, journal_of, has_halted, IsKept}, sector_device.specs.{claim.Disk.Image, declared.SectorDevice.Ghosts}}
use Rattle.desk_store_pages.proofs.Committed.{pages_sound}
use Rattle.page_store.proofs.gate_journal.Commit.{settled_opens}

module _ {D : Type 0} {g : Ghosts D} where
  -- each image that a stop now leaves stands for them
  pub kept_working : (ps : Pages D g) → has_halted ps ≡ false → (disk_in ps).is_honest → IsKept ps
  kept_working ps working honest = settled_opens (journal_of ps) (count_of ps) (disk_in ps) (ps.journal.settled working honest)

  -- so it opens to the desk that they hold
  pub opens_now : {new : Bool} (ps : Pages D g) → has_halted ps ≡ false → (disk_in ps).is_honest → (sectors : ℕ) (d : Desk) → home (journal_of ps) + count_of ps ≡ sectors → InPagesOf new ps d → (c : Image) → (disk_in ps).leaves c → OpensDeskOf new sectors d c
  opens_now ps working honest sectors d whole holds c left = search (kept_working, pages_sound)

  pub rows_after : {E : Type 0} (t : Txn) (made : Prepared) (old new : Pages D g) (r : Result (Unit {0}) E) → ((P : Image) (m : KeyMap) → TxnHolds t P m → HoldsAfter made P m) → OnOk r ((next : KeyMap) → HoldsAfter made (stored old) next → PagesHold new next)
      → OnOk r ((m : KeyMap) → TxnHolds t (stored old) m → PagesHold new m)
  rows_after t made old new (Err e) after held = tt
  rows_after t made old new (Ok x) after held = λ m holds. held m (after (stored old) m holds)
