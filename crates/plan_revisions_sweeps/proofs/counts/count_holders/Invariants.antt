use Rattle.{std.proofs.Common.{◌≡◌, [], ◌∷◌}, page_store.specs.claim.Transactions.{count_of, txn_pages}, btree_scan.proofs.Walked.HasWalked}
use Rattle.plan_revisions_sweeps.proofs.Counted.{AreCountedSo}
use Rattle.plan_revisions_sweeps.proofs.counts.count_holders.Given as goal

abbrev pub invariant-loop-taken : goal.invariant-loop-taken
invariant-loop-taken g l = record {
  begun : txn_pages l.txn ≡ count_of l.pages;
  walked : HasWalked (72 ∷ []) (λ m rows. AreCountedSo rows l.counts m l.taken) l.txn l.fn.pages l.pages l.scan l.taken;
}
