use Rattle.{std.proofs.Common.{◌≡◌, Ok}, desk_store_opening.specs.Checking.{AreChunksSeen, AreRevisionsSeen, Checks}, page_store.specs.claim.Transactions.{count_of, txn_pages}}
use Rattle.desk_store_opening.proofs.unkept_revisions.check_revisions.Given as goal

abbrev pub invariant-loop-before : goal.invariant-loop-before
invariant-loop-before g l = record {
  checks : Checks (λ m. AreChunksSeen l.row.districts l.ranges l.last.items m × AreRevisionsSeen l.ranges l.row l.before m) l.txn l.initial.pages l.pages (Ok (tt {0}));
  begun : txn_pages l.txn ≡ count_of l.pages;
}
