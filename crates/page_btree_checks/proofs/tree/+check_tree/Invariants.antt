use Rattle.{std.{specs.Option.option_copied, proofs.Common.{◌≡◌, length}}, page_btree_gets.specs.node.claim.Node.IsNode, page_btree_checks.proofs.Children.AreBelow}
use Rattle.page_store.specs.claim.Transactions.{stored, disk_in, count_of, txn_pages, over, Passed}
use Rattle.page_btree_checks.proofs.tree.+check_tree.Given as goal

abbrev pub invariant-loop-k : goal.invariant-loop-k
invariant-loop-k g l = record {
  begun : txn_pages l.txn ≡ count_of l.pages;
  long : length l.marks.seen.items ≡ txn_pages l.txn;
  passed : Passed l.fn.pages l.pages;
  node_is : (disk_in l.pages).is_honest → IsNode (over l.txn (stored l.fn.pages) l.page) l.node;
  below : (disk_in l.pages).is_honest → AreBelow (over l.txn (stored l.fn.pages)) l.level l.low (option_copied l.high) l.page l.node.entries l.k l.fn.marks l.marks;
}

abbrev pub decreases-check_tree : goal.decreases-check_tree
decreases-check_tree g l = l.level
