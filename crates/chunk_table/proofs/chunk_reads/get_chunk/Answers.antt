use Rattle.{std.proofs.{Common.{◌^◌, sym, ◌∙◌, arith, rules}, lemmas.List.append-nil}, chunk_table.specs.ChunkReading.IsChunk, desk_store_rows.specs.claim.Keys.chunk}
use Rattle.{desk_store_rows.specs.claim.Lists.districts_bytes, chunk_table.proofs.ChunkParts.{none_read, read_on, read_whole}}
use Rattle.desk_store_pages.proofs.Looking.{begins, both, fails_then, finds}
use Rattle.chunk_table.proofs.chunk_reads.get_chunk.Goals as goal

pub returns-in_err-append_piece : goal.returns-in_err-append_piece
returns-in_err-append_piece g c = fails_then c.loop-index.invariant.appends c.from_residual.result c.in_err-append_piece.ensures c.from_residual.ensures.1 (λ m is said. said)

pub loop-index-init : goal.loop-index-init
loop-index-init g c = search (rules, arith, c.requires.begun, begins, append-nil, none_read)

pub loop-index-preserved : goal.loop-index-preserved
loop-index-preserved g c =
    let less = c.loop-index-test.true in
    record {
      begun = c.loop-index.invariant.begun ∙ sym c.in_ok-append_piece.ensures.quiet.count;
      appends = finds (both c.loop-index.invariant.appends c.in_ok-append_piece.ensures) (λ m is.
          read_on 512 (2 ^ 16) districts_bytes (chunk c.args.id.number) c.args.count m (IsChunk c.args.id.number c.args.count) c.loop-index.index
          _ _ is.0 _ (λ i j less. omega arith) (omega arith) is.1);
    }

pub returns : goal.returns
returns g c = finds c.loop-index.invariant.appends (λ m is.
    read_whole 512 (2 ^ 16) districts_bytes (chunk c.args.id.number) c.args.count m (IsChunk c.args.id.number c.args.count) c.loop-index.index
    _ _ is (λ l said. said.long) (omega arith) (λ index within. omega arith))
