use Rattle.{std.proofs.Common.{◌≡◌, ◌<◌, ℕ, Ok, length, get_or}, desk_store_opening.specs.{Checking.{AreChunksSeen, Checks, IsChunkSeen}, Reading.no_cut}}
use Rattle.page_store.specs.claim.Transactions.{count_of, txn_pages}
use Rattle.desk_store_opening.proofs.unkept_chunks.check_chunks.Given as goal

abbrev pub invariant-loop-county : goal.invariant-loop-county
invariant-loop-county g l = record {
  checks : Checks (λ m. AreChunksSeen l.n l.ranges l.last m → (k : ℕ) → k < l.county → k < length l.ranges → IsChunkSeen l.n (get_or l.names k 0) (get_or l.ranges k no_cut).count m)
      l.txn l.initial.pages l.pages (Ok (tt {0}));
  begun : txn_pages l.txn ≡ count_of l.pages;
}
