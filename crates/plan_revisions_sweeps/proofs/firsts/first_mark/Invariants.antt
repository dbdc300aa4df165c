use Rattle.{std.{specs.List.AllByRecursion, proofs.Common.◌≡◌}, page_store.specs.claim.Transactions.{count_of, txn_pages}, btree_scan.proofs.Walked.HasWalked}
use Rattle.plan_revisions_sweeps.proofs.Scanned.{IsPassed}
use Rattle.plan_revisions_sweeps.proofs.firsts.first_mark.Given as goal

abbrev pub invariant-loop-taken : goal.invariant-loop-taken
invariant-loop-taken g l = record {
  begun : txn_pages l.txn ≡ count_of l.pages;
  walked : HasWalked l.prefix (λ m rows. AllByRecursion (IsPassed l.spared) rows) l.txn l.fn.pages l.pages l.scan l.taken;
}
