use Rattle.{std.proofs.Common.{◌≡◌, ◌∷◌, [], Ok, ap, subst, ◌∙◌, arith, length}, desk_model.specs.claim.Room.rows_for, desk_store_pages.specs.Outcomes.PutsRows}
use Rattle.{desk_store_rows.specs.{ChunkRows.piece_row, Puts.rows_told, claim.Lists.districts_bytes}, desk_store_pages.proofs.Writing.{puts_as, puts_nothing, told_fail, told_puts}}
use Rattle.chunk_table.proofs.chunk_puts.put_chunk_as.Goals as goal

pub loop-index-init : goal.loop-index-init
loop-index-init g c = puts_nothing c.requires.begun

pub returns-in_err-put_row : goal.returns-in_err-put_row
returns-in_err-put_row g c =
    let value = c.as_slice.ensures.value ∙ c.fill_districts.ensures ∙ ap districts_bytes c.part_of.ensures.part in
    told_fail (piece_row c.args.id.number c.args.districts.now) c.loop-index.index _ c.from_residual.result c.loop-index-test.true c.loop-index.invariant
    (puts_as (λ i. (c.chunk.ensures i, value i) ∷ []) c.in_err-put_row.ensures.puts) c.from_residual.ensures.1

pub loop-index-preserved : goal.loop-index-preserved
loop-index-preserved g c =
    let value = c.as_slice.ensures.value ∙ c.fill_districts.ensures ∙ ap districts_bytes c.part_of.ensures.part in
    told_puts (piece_row c.args.id.number c.args.districts.now) _ c.loop-index.invariant (puts_as (λ i. (c.chunk.ensures i, value i) ∷ []) c.in_ok-put_row.ensures.puts)

pub returns : goal.returns
returns g c =
    let all : c.loop-index.index ≡ rows_for 512 (length c.args.districts.now) = omega arith in
    subst (λ n. PutsRows (rows_told (piece_row c.args.id.number c.args.districts.now) n) c.args.txn.now c.loop-index.txn c.args.pages.now c.loop-index.pages (Ok (tt {0}))) all c.loop-index.invariant
