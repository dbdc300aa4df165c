use Rattle.{std.{specs.List.AllByRecursion, proofs.Common.{◌≡◌, [], ◌∷◌}}, page_store.specs.claim.Transactions.{count_of, txn_pages}, btree_scan.proofs.Walked.HasWalked}
use Rattle.plan_revisions_sweeps.specs.Checks.{IsEntryTold}
use Rattle.plan_revisions_sweeps.proofs.counts.check_counts.Given as goal

abbrev pub invariant-loop-taken : goal.invariant-loop-taken
invariant-loop-taken g l = record {
  begun : txn_pages l.txn ≡ count_of l.pages;
  walked : HasWalked (75 ∷ []) (λ m rows. AllByRecursion (IsEntryTold l.counts) rows) l.txn l.fn.pages l.pages l.scan l.taken;
}
