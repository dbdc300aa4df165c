use Rattle.{std.proofs.Common.◌≡◌, desk_store_rows.specs.{Puts.rows_told, RevisionSteps.new_holding}, page_store.specs.claim.Transactions.{count_of, txn_pages}}
use Rattle.desk_store_pages.proofs.Rising.{HasPutFrom}
use Rattle.chunk_table.proofs.holdings.put_held.Given as goal

abbrev pub invariant-loop-k : goal.invariant-loop-k
invariant-loop-k g l = record {
  put : HasPutFrom l.fingers (rows_told (new_holding l.plan l.first) l.k) l.initial.txn l.txn l.initial.pages l.pages;
  begun : txn_pages l.txn ≡ count_of l.pages;
}
