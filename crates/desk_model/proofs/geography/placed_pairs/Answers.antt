use Rattle.{std.proofs.Common.arith, desk_model.proofs.Pairs.{told_next, told_all}}
use Rattle.desk_model.proofs.geography.placed_pairs.Goals as goal

pub placed-last-requires-clause-told : goal.placed-last-requires-clause-told
placed-last-requires-clause-told c = rw c.pair-item.is (c.requires.told _ _ (omega arith))

pub loop-pair-preserved : goal.loop-pair-preserved
loop-pair-preserved c =
    told_next c.args.blocks.now c.requires.rising c.args.told.now c.loop-pair.pair-index c.pair-item.result c.loop-pair.pairs.items _ c.placed-last.result (omega arith) c.pair-item.is c.loop-pair.invariant
    c.placed-last.ensures.valid c.placed-last.ensures.told c.in_ok-push.ensures.items

pub returns : goal.returns
returns c = told_all c.args.blocks.now c.requires.rising c.args.told.now c.loop-pair.pair-index c.loop-pair.pairs.items (omega arith) c.loop-pair.invariant
