use Rattle.{std.proofs.Common.{◌≡◌, ◌*◌, ◌^◌, Ok, take}, chunk_table.specs.{Appended.AppendsRows, ChunkReading.IsChunk, Parts.AppendsPrefix}}
use Rattle.{desk_store_rows.specs.claim.{Keys.chunk, Lists.districts_bytes}, page_store.specs.claim.Transactions.{count_of, txn_pages}}
use Rattle.chunk_table.proofs.chunk_reads.get_chunk.Given as goal

abbrev pub invariant-loop-index : goal.invariant-loop-index
invariant-loop-index g l = record {
  begun : txn_pages l.txn ≡ count_of l.pages;
  appends : AppendsRows (IsChunk l.id.number l.count) (λ all. take (512 * l.index) all) (AppendsPrefix 512 (2 ^ 16) districts_bytes (chunk l.id.number) l.count l.index)
      l.txn l.initial.pages l.pages l.initial.into.items l.into.items (Ok (tt {0}));
}
