use Rattle.{std.proofs.Common.{◌<◌, ◌≤◌, List, length, get_or, ap, ◌∙◌, arith}, pl94_geo.specs.declared.header.GeoBlock.GeoBlock}
use Rattle.pl94_segment.proofs.JoinLemmas.{least_of_all, least_of_blocks, least_more}
use Rattle.pl94_segment.proofs.join.least_missing.Goals as goal

pub returns-in-Some : goal.returns-in-Some
returns-in-Some c =
    let all : length c.args.geo.now.blocks.items ≤ c.loop-block.block-index = omega (arith, c.as_slice-blocks.ensures.len) in
    least_of_all c.args.geo.now c.args.first.now c.args.second.now c.args.third.now c.loop-block.block-index c.in-Some.number c.with_number.result all c.in-Some.is
    (c.with_number.ensures _ c.loop-block.invariant)

pub returns-in-None : goal.returns-in-None
returns-in-None c =
    let all : length c.args.geo.now.blocks.items ≤ c.loop-block.block-index = omega (arith, c.as_slice-blocks.ensures.len, c.loop-block-test.false) in
    least_of_blocks c.args.geo.now c.args.first.now c.args.second.now c.args.third.now c.loop-block.block-index c.loop-block.least all c.in-None.is c.loop-block.invariant

pub loop-block-preserved : goal.loop-block-preserved
loop-block-preserved c =
    let same = c.as_slice-blocks.ensures.value in
    let inside : c.loop-block.block-index < length c.args.geo.now.blocks.items = omega (arith, ap length same, c.loop-block-test.true) in
    least_more c.args.geo.now.blocks.items c.args.first.now c.args.second.now c.args.third.now c.loop-block.block-index c.block-item.result c.with_number-least.result inside
    (c.block-item.is ∙ ap (λ (bs : List GeoBlock). get_or bs c.loop-block.block-index c.block-item.result) same)
    (c.with_number-least.ensures _ c.loop-block.invariant)
