use Rattle.{std.proofs.Common.{get_or, refl, arith}, census_difference.specs.claim.Differences.{IsExtraPair, IsMissingPair, PairDiffers}}
use Rattle.{desk_model.specs.declared.geography.Pair.Pair, census_difference.proofs.Apart.{both_differ, extra_differs, missing_differs}}
use Rattle.census_difference.proofs.lists.pairs_difference.Goals as goal

abbrev none : Pair
none = record { first = 0; second = 0 }

pub returns-in-Some-clause-first : goal.returns-in-Some-clause-first
returns-in-Some-clause-first c =
    let d = c.in-Some.difference in
    let blocks = c.args.blocks.now in
    let k = c.loop-k.k in
    both_differ (PairDiffers blocks d) (IsExtraPair blocks d) (IsMissingPair blocks d) c.args.stored.now c.args.said.now k (get_or c.args.stored.now k none) (get_or c.args.said.now k none) none none (omega (arith, c.min-both.ensures, c.loop-k-test.true)) (omega (arith, c.min-both.ensures, c.loop-k-test.true)) c.loop-k.invariant refl refl c.in-Some.ensures.first

pub returns-then-both-said-clause-first : goal.returns-then-both-said-clause-first
returns-then-both-said-clause-first c =
    let d = c.missing.result in
    let blocks = c.args.blocks.now in
    let n = c.min-both.result in
    missing_differs (PairDiffers blocks d) (IsExtraPair blocks d) (IsMissingPair blocks d) c.args.stored.now c.args.said.now n c.loop-k.k (get_or c.args.said.now n none) none c.min-both.ensures c.loop-k-test.false c.loop-k.auto.k-end c.if-both-said.true c.loop-k.invariant refl c.missing.ensures

pub returns-then-both-stored-clause-first : goal.returns-then-both-stored-clause-first
returns-then-both-stored-clause-first c =
    let d = c.extra.result in
    let blocks = c.args.blocks.now in
    let n = c.min-both.result in
    extra_differs (PairDiffers blocks d) (IsExtraPair blocks d) (IsMissingPair blocks d) c.args.stored.now c.args.said.now n c.loop-k.k (get_or c.args.stored.now n none) none c.loop-k-test.false c.loop-k.auto.k-end c.if-both-stored.true c.if-both-said.false c.loop-k.invariant refl c.extra.ensures
