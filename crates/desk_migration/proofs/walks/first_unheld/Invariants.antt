use Rattle.{std.proofs.Common.{◌≡◌, take, Ok}, desk_migration.specs.Walks.HoldsEach, desk_store_pages.specs.Looking.Looks, desk_store_rows.specs.claim.Tidy.Tidy}
use Rattle.page_store.specs.claim.Transactions.{count_of, txn_pages}
use Rattle.desk_migration.proofs.walks.first_unheld.Given as goal

abbrev pub invariant-loop-place : goal.invariant-loop-place
invariant-loop-place g l = record {
  begun : txn_pages l.txn ≡ count_of l.pages;
  looked : Looks (λ m _. Tidy m × HoldsEach l.seen.plan l.seen.numbers.items m × HoldsEach l.part.plan (take l.from l.part.numbers.items) m
      → HoldsEach l.part.plan (take l.place l.part.numbers.items) m) (λ m. Unit {0}) l.txn l.fn.pages l.pages (Ok (tt {0}));
}
