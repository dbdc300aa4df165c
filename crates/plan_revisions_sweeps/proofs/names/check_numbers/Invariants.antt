use Rattle.{std.{specs.Prelude.All, proofs.Common.{◌≡◌, Ok, take}}, desk_store_pages.specs.Looking.Gathers, page_store.specs.claim.Transactions.{count_of, txn_pages}}
use Rattle.plan_revisions_sweeps.specs.claim.Checks.{IsHeldOrGone}
use Rattle.plan_revisions_sweeps.proofs.names.check_numbers.Given as goal

abbrev pub invariant-loop-number : goal.invariant-loop-number
invariant-loop-number g l = record {
  begun : txn_pages l.txn ≡ count_of l.pages;
  gathers : Gathers (λ m _. All (IsHeldOrGone m l.plan) l.fn.known.items → All (IsHeldOrGone m l.plan) (take l.number-index l.numbers) × All (IsHeldOrGone m l.plan) l.known.items)
      (λ m. All (IsHeldOrGone m l.plan) l.numbers) l.txn l.fn.pages l.pages (Ok (tt {0}));
}
