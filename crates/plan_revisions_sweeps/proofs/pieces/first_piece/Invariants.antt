use Rattle.{std.{specs.Prelude.All, proofs.Common.{◌≡◌, take, Ok}}, desk_store_pages.specs.Looking.Looks, desk_store_rows.specs.claim.Tidy.AreRows}
use Rattle.{page_store.specs.claim.Transactions.{count_of, txn_pages}, plan_revisions_sweeps.specs.Finding.{IsDone, IsGap}}
use Rattle.plan_revisions_sweeps.proofs.pieces.first_piece.Given as goal

abbrev pub invariant-loop-number : goal.invariant-loop-number
invariant-loop-number g l = record {
  begun : txn_pages l.txn ≡ count_of l.pages;
  looked : Looks (λ m _. AreRows m → All (IsDone m) (take l.number-index l.numbers) × IsGap l.gap l.row.key m) AreRows l.txn l.fn.pages l.pages (Ok (tt {0}));
}
