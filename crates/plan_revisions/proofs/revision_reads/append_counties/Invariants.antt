use Rattle.{std.{specs.List.concat, proofs.Common.{◌≡◌, Ok, take}}, page_store.specs.claim.Transactions.{count_of, txn_pages}, plan_revisions.specs.RevisionReading.AreCounties}
use Rattle.plan_revisions_sweeps.specs.chunk_table.Appended.{Appends}
use Rattle.plan_revisions.proofs.revision_reads.append_counties.Given as goal

abbrev pub invariant-loop-county : goal.invariant-loop-county
invariant-loop-county g l = record {
  begun : txn_pages l.txn ≡ count_of l.pages;
  appends : Appends (AreCounties l.numbers l.ranges) (λ counties. concat (take l.county counties)) l.txn l.initial.pages l.pages l.initial.into.items l.into.items (Ok (tt {0}));
}
