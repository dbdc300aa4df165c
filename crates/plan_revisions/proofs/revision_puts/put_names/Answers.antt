use Rattle.{std.proofs.Common.{◌∷◌, [], ap, ◌∙◌}, desk_store_rows.specs.{NameRows.name_row, claim.Lists.chunks_bytes}}
use Rattle.desk_store_pages.proofs.Writing.{puts_as, puts_nothing, told_fail, told_puts}
use Rattle.plan_revisions.proofs.revision_puts.put_names.Goals as goal

pub loop-index-init : goal.loop-index-init
loop-index-init g c = puts_nothing c.requires.begun

pub returns-in_err-put_row : goal.returns-in_err-put_row
returns-in_err-put_row g c =
    let value = c.as_slice.ensures.value ∙ c.fill_chunks.ensures ∙ ap chunks_bytes c.part_of.ensures.part in
    told_fail (name_row c.args.plan c.args.revision c.args.numbers.now) c.loop-index.index _ c.from_residual.result c.loop-index-test.true c.loop-index.invariant
    (puts_as (λ i. (c.part.ensures i, value i) ∷ []) c.in_err-put_row.ensures.puts) c.from_residual.ensures.1

pub loop-index-preserved : goal.loop-index-preserved
loop-index-preserved g c =
    let value = c.as_slice.ensures.value ∙ c.fill_chunks.ensures ∙ ap chunks_bytes c.part_of.ensures.part in
    told_puts (name_row c.args.plan c.args.revision c.args.numbers.now) _ c.loop-index.invariant (puts_as (λ i. (c.part.ensures i, value i) ∷ []) c.in_ok-put_row.ensures.puts)
