use Rattle.{std.{specs.List.AllByRecursion, proofs.Common.{◌≡◌, []}}, page_store.specs.claim.Transactions.{count_of, txn_pages}, store_verification_rows.specs.Strays.IsNaming}
use Rattle.btree_scan.proofs.Walked.{HasWalked}
use Rattle.store_verification_rows.proofs.namings.find_naming.Given as goal

abbrev pub invariant-loop-taken : goal.invariant-loop-taken
invariant-loop-taken g l = record {
  begun : txn_pages l.txn ≡ count_of l.pages;
  walked : HasWalked [] (λ m rows. AllByRecursion (λ e. IsNaming l.ranges l.of l.number l.piece e → ⊥) rows) l.txn l.fn.pages l.pages l.scan l.taken;
}
