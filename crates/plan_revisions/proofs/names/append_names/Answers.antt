use Rattle.{std.proofs.{Common.{◌^◌, sym, ◌∙◌, arith, rules}, lemmas.List.append-nil}, desk_store_rows.specs.claim.{Keys.part, Lists.chunks_bytes}}
use Rattle.{plan_revisions.specs.RevisionReading.AreNames, desk_store_pages.proofs.Looking.{begins, both, fails_then, finds}}
use Rattle.plan_revisions_sweeps.proofs.chunk_table.ChunkParts.{none_read, read_on, read_whole}
use Rattle.plan_revisions.proofs.names.append_names.Goals as goal

pub returns-in_err-append_part : goal.returns-in_err-append_part
returns-in_err-append_part g c = fails_then c.loop-index.invariant.appends c.from_residual.result c.in_err-append_part.ensures c.from_residual.ensures.1 (λ m is said. said)

pub loop-index-init : goal.loop-index-init
loop-index-init g c = search (rules, arith, c.requires.begun, begins, append-nil, none_read)

pub loop-index-preserved : goal.loop-index-preserved
loop-index-preserved g c =
    let less = c.loop-index-test.true in
    record {
      begun = c.loop-index.invariant.begun ∙ sym c.in_ok-append_part.ensures.quiet.count;
      appends = finds (both c.loop-index.invariant.appends c.in_ok-append_part.ensures) (λ m is.
          read_on 128 (2 ^ 64) chunks_bytes (part c.args.plan c.args.revision) c.args.count m (AreNames c.args.plan c.args.revision c.args.count) c.loop-index.index
          _ _ is.0 _ (λ i j less. omega arith) (omega arith) is.1);
    }

pub returns : goal.returns
returns g c = finds c.loop-index.invariant.appends (λ m is.
    read_whole 128 (2 ^ 64) chunks_bytes (part c.args.plan c.args.revision) c.args.count m (AreNames c.args.plan c.args.revision c.args.count) c.loop-index.index
    _ _ is (λ l said. said.long) (omega arith) (λ index within. omega arith))
