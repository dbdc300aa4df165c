use Rattle.{std.proofs.Common.{◌≡◌, ◌<◌, ℕ, List, [], length, get_or}, page_store.specs.claim.Transactions.{stored, disk_in, count_of, txn_pages, over, Passed}}
use Rattle.page_btree_gets.proofs.seeks.read_leaves.Given as goal

abbrev pub invariant-loop-j : goal.invariant-loop-j
invariant-loop-j g l = record {
  begun : txn_pages l.txn ≡ count_of l.pages;
  passed : Passed l.fn.pages l.pages;
  four : length l.held ≡ 4;
  reads : (disk_in l.pages).is_honest → (i : ℕ) → i < l.j → get_or {A = List ℕ} l.held i [] ≡ over l.txn (stored l.fn.pages) (get_or l.children i 0);
}
