use Rattle.{std.{specs.FinMap.entries, proofs.Common.{◌≡◌, ◌+◌, ◌≤◌, length, Ok}}, desk_store_opening_tidy.specs.Owners.{AreOwnedBelow, HasOwners, IsUnderParts}}
use Rattle.{desk_store_pages.specs.Looking.Looks, page_btree.specs.node.Places.entries_from, page_store.specs.claim.Transactions.{count_of, txn_pages}}
use Rattle.desk_store_opening_tidy.proofs.owners.check_owners.Given as goal

abbrev pub invariant-loop-taken : goal.invariant-loop-taken
invariant-loop-taken g l = record {
  begun : txn_pages l.txn ≡ count_of l.pages;
  under : IsUnderParts l.from;
  looked : Looks (λ m _. AreOwnedBelow l.counts l.from m × (length (entries_from l.from (entries m)) + l.taken ≤ length (entries m)))
      (HasOwners l.counts) l.txn l.fn.pages l.pages (Ok (tt {0}));
}
