use Rattle.{std.proofs.Common.{◌≡◌, ◌≤◌, ◌-◌}, page_store.specs.claim.Transactions.{count_of, txn_pages}, plan_revisions_sweeps.specs.Sweeping.HasSwept}
use Rattle.plan_revisions_sweeps.proofs.rows.sweep_rows.Given as goal

abbrev pub invariant-loop-swept : goal.invariant-loop-swept
invariant-loop-swept g l = record {
  begun : txn_pages l.txn ≡ count_of l.pages;
  few : l.swept ≤ 16;
  swept : HasSwept l.running l.swept l.fn.txn l.txn l.fn.pages l.pages;
}

abbrev pub decreases-loop-swept : goal.decreases-loop-swept
decreases-loop-swept g l = 16 - l.swept
