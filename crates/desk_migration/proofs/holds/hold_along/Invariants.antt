use Rattle.{std.proofs.Common.◌≡◌, desk_migration.specs.{Puts.{AndStand, HasHeldAs}, Walks.{IsWalking, StandsUnder}}}
use Rattle.page_store.specs.claim.Transactions.{count_of, stored, txn_pages}
use Rattle.desk_migration.proofs.holds.hold_along.Given as goal

abbrev pub invariant-loop-held : goal.invariant-loop-held
invariant-loop-held g l = record {
  begun : txn_pages l.txn ≡ count_of l.pages;
  under : StandsUnder l.walk;
  held : HasHeldAs ⊥ l.held (IsWalking l.fn.walk) (AndStand (IsWalking l.walk) l.fingers l.txn (stored l.fn.pages)) l.fn.txn l.txn l.fn.pages l.pages;
}
