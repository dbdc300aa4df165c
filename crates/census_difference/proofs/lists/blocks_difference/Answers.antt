use Rattle.{std.proofs.Common.{get_or, refl, arith}, census_difference.specs.claim.Differences.{BlockDiffers, IsExtraBlock, IsMissingBlock}}
use Rattle.census_difference.{specs.declared.difference.Difference.TheVariants.{ExtraBlock, MissingBlock}, proofs.Apart.{both_differ, extra_differs, missing_differs}}
use Rattle.census_difference.proofs.lists.blocks_difference.Goals as goal

pub returns-in-Some-clause-first : goal.returns-in-Some-clause-first
returns-in-Some-clause-first c =
    let d = c.in-Some.difference in
    let a = c.index-stored-k in
    let b = c.index-said-k in
    both_differ (BlockDiffers d) (IsExtraBlock d) (IsMissingBlock d) c.args.stored.now c.args.said.now c.loop-k.k a.result b.result a.result b.result (omega (arith, c.min-shorter.ensures, c.loop-k-test.true)) (omega (arith, c.min-shorter.ensures, c.loop-k-test.true)) c.loop-k.invariant a.is b.is c.in-Some.ensures.first

pub returns-then-shorter-said-clause-first : goal.returns-then-shorter-said-clause-first
returns-then-shorter-said-clause-first c =
    let b = get_or c.args.said.now c.min-shorter.result c.index-said-shorter.result in
    let d = MissingBlock b.id in
    missing_differs (BlockDiffers d) (IsExtraBlock d) (IsMissingBlock d) c.args.stored.now c.args.said.now c.min-shorter.result c.loop-k.k b c.index-said-shorter.result c.min-shorter.ensures c.loop-k-test.false c.loop-k.auto.k-end c.if-shorter-said.true c.loop-k.invariant refl refl

pub returns-then-shorter-stored-clause-first : goal.returns-then-shorter-stored-clause-first
returns-then-shorter-stored-clause-first c =
    let a = get_or c.args.stored.now c.min-shorter.result c.index-stored-shorter.result in
    let d = ExtraBlock a.id in
    extra_differs (BlockDiffers d) (IsExtraBlock d) (IsMissingBlock d) c.args.stored.now c.args.said.now c.min-shorter.result c.loop-k.k a c.index-stored-shorter.result c.loop-k-test.false c.loop-k.auto.k-end c.if-shorter-stored.true c.if-shorter-said.false c.loop-k.invariant refl refl
