use Rattle.{std.{specs.List.AllByRecursion, proofs.Common.{◌≡◌, [], length}}, page_store.specs.claim.Transactions.{count_of, txn_pages}, btree_scan.proofs.Walked.HasWalked}
use Rattle.store_verification_rows.specs.{Strays.{IsHeldRow, IsRight}, Wholes.IsWhole}
use Rattle.store_verification_rows.proofs.wholes.check_rows.Given as goal

abbrev pub invariant-loop-taken : goal.invariant-loop-taken
invariant-loop-taken g l = record {
  begun : txn_pages l.txn ≡ count_of l.pages;
  walked : HasWalked [] (λ m rows. (length rows ≡ l.taken) × AllByRecursion IsWhole rows × AllByRecursion (IsRight l.ranges m) rows × IsHeldRow l.part m) l.txn l.fn.pages l.pages l.scan l.taken;
}
