use Rattle.{std.{specs.{List.AllByRecursion, Prelude.All}, proofs.Common.{◌≡◌, [], ◌∷◌}}, page_store.specs.claim.Transactions.{count_of, txn_pages}}
use Rattle.{plan_revisions_sweeps.specs.{Checks.IsEntryNamed, claim.Checks.IsHeldOrGone}, btree_scan.proofs.Walked.HasWalked}
use Rattle.plan_revisions_sweeps.proofs.names.check_names.Given as goal

abbrev pub invariant-loop-taken : goal.invariant-loop-taken
invariant-loop-taken g l = record {
  begun : txn_pages l.txn ≡ count_of l.pages;
  walked : HasWalked (82 ∷ []) (λ m rows. AllByRecursion (IsEntryNamed m) rows × All (IsHeldOrGone m l.holder) l.known.items)
      l.txn l.fn.pages l.pages l.scan l.taken;
}
