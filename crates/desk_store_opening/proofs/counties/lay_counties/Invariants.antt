use Rattle.{std.proofs.Common.{◌≡◌, Ok, length}, desk_store_opening.{specs.Reading.{AreNamed, Reads}, proofs.Laying.{LaidTo, so_far}}, desk_store_pages.specs.claim.Desks.AreWithin}
use Rattle.page_store.specs.claim.Transactions.{count_of, txn_pages}
use Rattle.desk_store_opening.proofs.counties.lay_counties.Given as goal

abbrev pub invariant-loop-county : goal.invariant-loop-county
invariant-loop-county g l = record {
  reads : Reads (λ m all. LaidTo l.ranges l.names l.last l.fn.before m l.county all) (AreNamed l.n l.ranges l.names l.last l.fn.before) (λ all. so_far l.ranges all l.fn.before l.county)
      l.txn l.initial.pages l.pages (Ok l.districts);
  within : AreWithin l.n l.fn.before → AreWithin l.n l.districts;
  long : length l.districts ≡ length l.fn.before;
  begun : txn_pages l.txn ≡ count_of l.pages;
}
