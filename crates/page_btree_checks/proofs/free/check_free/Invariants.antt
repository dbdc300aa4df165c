use Rattle.{std.proofs.Common.{◌≡◌, length}, page_store.specs.claim.Transactions.{stored, disk_in, count_of, txn_pages, over, Passed}, page_btree_checks.proofs.Lists.AreListed}
use Rattle.page_btree_checks.proofs.free.check_free.Given as goal

abbrev pub invariant-loop-taken : goal.invariant-loop-taken
invariant-loop-taken g l = record {
  begun : txn_pages l.txn ≡ count_of l.pages;
  long : length l.marks.seen.items ≡ txn_pages l.txn;
  passed : Passed l.fn.pages l.pages;
  listed : (disk_in l.pages).is_honest → AreListed (over l.txn (stored l.fn.pages)) l.fn.first l.taken l.next l.fn.marks l.marks;
}
