use Rattle.{std.proofs.Common.{◌≡◌, length}, page_store.specs.claim.Transactions.{count_of, txn_pages}, btree_scan.proofs.Walked.HasWalked}
use Rattle.inspect_command.proofs.rows.count_under.Given as goal

abbrev pub invariant-loop-taken : goal.invariant-loop-taken
invariant-loop-taken g l = record {
  begun : txn_pages l.txn ≡ count_of l.pages;
  walked : HasWalked l.fn.prefix (λ m rows. length rows ≡ l.taken) l.txn l.fn.pages l.pages l.scan l.taken;
}
