use Rattle.{std.{specs.FinMap.entries, proofs.Common.{◌≡◌, ◌+◌, ◌≤◌, length, Ok}}, desk_migration.specs.Walks.{IsWalking, StandsUnder}, desk_store_pages.specs.Looking.Looks}
use Rattle.{page_btree.specs.node.Places.entries_from, page_store.specs.claim.Transactions.{count_of, txn_pages}}
use Rattle.desk_migration.proofs.walks.next_pair.Given as goal

abbrev pub invariant-loop-taken : goal.invariant-loop-taken
invariant-loop-taken g l = record {
  begun : txn_pages l.txn ≡ count_of l.pages;
  under : StandsUnder l.walk;
  looked : Looks (λ m _. IsWalking l.fn.walk m → IsWalking l.walk m × (length (entries_from l.walk.from (entries m)) + l.taken ≤ length (entries m)))
      (IsWalking l.fn.walk) l.txn l.fn.pages l.pages (Ok (tt {0}));
}
