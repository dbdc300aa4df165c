use Rattle.{std.proofs.Common.◌≡◌, desk_migration.specs.TurningBack.IsLess, desk_store_rows.specs.claim.Rows.KeyMap, page_btree.specs.gets.claim.Map.InTxn}
use Rattle.page_store.specs.claim.Transactions.{stored, disk_in, count_of, txn_pages, Passed}
use Rattle.desk_migration.proofs.old.take_all.Given as goal

abbrev pub invariant-loop-taken : goal.invariant-loop-taken
invariant-loop-taken g l = record {
  begun : txn_pages l.txn ≡ count_of l.pages;
  passed : Passed l.fn.pages l.pages;
  less : (disk_in l.pages).is_honest → (m : KeyMap) → InTxn l.fn.txn (stored l.fn.pages) m → (n : KeyMap) × InTxn l.txn (stored l.fn.pages) n × IsLess l.tag m n;
}
