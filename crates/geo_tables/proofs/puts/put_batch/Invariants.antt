use Rattle.{std.proofs.Common.◌≡◌, geo_tables.specs.{Rows.staged_rows, Staging.Stages}, page_store.specs.claim.Transactions.{count_of, txn_pages}}
use Rattle.desk_store_pages.proofs.Rising.{HasPutFrom}
use Rattle.geo_tables.proofs.puts.put_batch.Given as goal

abbrev pub invariant-loop-k : goal.invariant-loop-k
invariant-loop-k g l = record {
  put : HasPutFrom l.fingers (staged_rows l.load l.geography l.done l.k) l.initial.txn l.txn l.initial.pages l.pages;
  begun : txn_pages l.txn ≡ count_of l.pages;
  staged : Stages l.load l.geography l.done l.k;
}
