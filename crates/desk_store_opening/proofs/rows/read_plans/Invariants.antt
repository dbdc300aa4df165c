use Rattle.{std.proofs.Common.{◌≡◌, Some}, desk_model.specs.Ranges.ranges_of, desk_store_catalogue.specs.Kept.AreWhole, desk_store_opening.specs.Opening.ArePlans}
use Rattle.{desk_store_rows.specs.claim.Keys.plans_prefix, page_store.specs.claim.Transactions.{count_of, txn_pages}, btree_scan.proofs.Walked.HasWalked}
use Rattle.desk_store_opening.proofs.{Parts.{Plans, AreRead}, PlanNumbers.AreNoted, Shown.AreShown}
use Rattle.desk_store_opening.proofs.rows.read_plans.Given as goal

abbrev pub invariant-loop-taken : goal.invariant-loop-taken
invariant-loop-taken g l = record {
  begun : txn_pages l.txn ≡ count_of l.pages;
  whole : AreWhole (Some l.geography) l.plans;
  walked : HasWalked plans_prefix
      (λ m rows. ((all : Plans) → ArePlans l.geography m all → AreRead rows l.plans all) × AreShown m (ranges_of l.geography) rows l.plans × AreNoted rows l.counts)
      l.txn l.fn.pages l.pages l.scan l.taken;
}
