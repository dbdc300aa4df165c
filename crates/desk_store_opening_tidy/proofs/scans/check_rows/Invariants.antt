use Rattle.{std.proofs.Common.{◌≡◌, []}, page_store.specs.claim.Transactions.{count_of, txn_pages}, btree_scan.proofs.Walked.HasWalked}
use Rattle.desk_store_opening_tidy.proofs.Scanned.{AreEntriesBelow, AreRowEntries}
use Rattle.desk_store_opening_tidy.proofs.scans.check_rows.Given as goal

abbrev pub invariant-loop-taken : goal.invariant-loop-taken
invariant-loop-taken g l = record {
  begun : txn_pages l.txn ≡ count_of l.pages;
  walked : HasWalked [] (λ m rows. AreEntriesBelow l.next rows × AreRowEntries rows) l.txn l.fn.pages l.pages l.scan l.taken;
}
