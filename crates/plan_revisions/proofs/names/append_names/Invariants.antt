use Rattle.{std.proofs.Common.{◌≡◌, ◌*◌, ◌^◌, Ok, take}, desk_store_rows.specs.claim.{Keys.part, Lists.chunks_bytes}, page_store.specs.claim.Transactions.{count_of, txn_pages}}
use Rattle.{plan_revisions.specs.RevisionReading.AreNames, plan_revisions_sweeps.specs.chunk_table.{Appended.AppendsRows, Parts.AppendsPrefix}}
use Rattle.plan_revisions.proofs.names.append_names.Given as goal

abbrev pub invariant-loop-index : goal.invariant-loop-index
invariant-loop-index g l = record {
  begun : txn_pages l.txn ≡ count_of l.pages;
  appends : AppendsRows (AreNames l.plan l.revision l.count) (λ all. take (128 * l.index) all) (AppendsPrefix 128 (2 ^ 64) chunks_bytes (part l.plan l.revision) l.count l.index)
      l.txn l.initial.pages l.pages l.initial.into.items l.into.items (Ok (tt {0}));
}
