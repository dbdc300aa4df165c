use Rattle.{std.proofs.Common.{◌≡◌, ◌≤◌}, desk_model.specs.claim.Step.plan_limit, desk_store_rows.specs.claim.Keys.plans_prefix, btree_scan.proofs.Walked.HasWalked}
use Rattle.{page_store.specs.claim.Transactions.{count_of, txn_pages}, desk_store_opening.proofs.Told.AreTold}
use Rattle.desk_store_opening.proofs.unkept_plans.check_plans.Given as goal

abbrev pub invariant-loop-taken : goal.invariant-loop-taken
invariant-loop-taken g l = record {
  begun : txn_pages l.txn ≡ count_of l.pages;
  limit : l.taken ≤ plan_limit;
  walked : HasWalked plans_prefix (AreTold l.ranges l.taken l.counts) l.txn l.fn.pages l.pages l.scan l.taken;
}
