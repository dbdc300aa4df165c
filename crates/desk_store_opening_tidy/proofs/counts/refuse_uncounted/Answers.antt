use Rattle.{std.proofs.Common.{sym, ◌∙◌}, desk_store_rows.specs.claim.Keys.{block, pair, key_of, blocks_prefix, pairs_prefix}, desk_store_opening_tidy.proofs.After.none_moved}
use Rattle.desk_store_pages.proofs.Looking.{fails, looks}
use Rattle.desk_store_opening_tidy.proofs.counts.refuse_uncounted.Goals as goal

pub returns-in_err-refuse_from : goal.returns-in_err-refuse_from
returns-in_err-refuse_from g c =
    let s = c.args.sealed in
    fails c.from_residual.result c.in_err-refuse_from.ensures c.from_residual.ensures.1
    (λ m is. none_moved m (key_of (block s.load s.blocks)) c.block-next.result (blocks_prefix s.load) c.as_slice.result.now (sym c.block-next.ensures) (sym (c.as_slice.ensures.bytes ∙ c.blocks-blocks.ensures)) is.blocks)

pub returns : goal.returns
returns g c =
    let s = c.args.sealed in
    looks c.in_ok-refuse_from.ensures c.refuse_from-2.result c.refuse_from-2.ensures
    (λ m _ blocks pairs. record {
      blocks = none_moved m c.block-next.result (key_of (block s.load s.blocks)) c.as_slice.result.now (blocks_prefix s.load) c.block-next.ensures (c.as_slice.ensures.bytes ∙ c.blocks-blocks.ensures) blocks;
      pairs = none_moved m c.pair-next.result (key_of (pair s.load s.pairs)) c.as_slice-2.result.now (pairs_prefix s.load) c.pair-next.ensures (c.as_slice-2.ensures.bytes ∙ c.pairs-pairs.ensures) pairs;
    })
    (λ m _ is. none_moved m (key_of (pair s.load s.pairs)) c.pair-next.result (pairs_prefix s.load) c.as_slice-2.result.now (sym c.pair-next.ensures) (sym (c.as_slice-2.ensures.bytes ∙ c.pairs-pairs.ensures)) is.pairs)
