use Rattle.{std.proofs.Common.◌≡◌, page_btree.specs.checks.Owners.after, page_store.specs.claim.Transactions.{stored, disk_in, count_of, txn_pages, over, Passed}}
use Rattle.desk_store_opening.proofs.held.follow.Given as goal

abbrev pub invariant-loop-k : goal.invariant-loop-k
invariant-loop-k g l = record {
  begun : txn_pages l.txn ≡ count_of l.pages;
  passed : Passed l.fn.pages l.pages;
  at : (disk_in l.pages).is_honest → l.page ≡ after (over l.txn (stored l.fn.pages)) l.fn.first l.k;
}
