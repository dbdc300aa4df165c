use Rattle.{std.{specs.Ordering.is_lt, proofs.Common.{◌+◌, arith, ◌∙◌, rules}}, page_btree_node.proofs.{Laws.{below_middle, is_less}, Nearing.{ninth, ninth_not, ninth_end}}}
use Rattle.page_btree_node.proofs.{Passed.node_passed_not, Scanning.told_of}
use Rattle.page_btree_node.proofs.search.row_after.Goals as goal

pub returns-in-None : goal.returns-in-None
returns-in-None c = λ node is begun.
    node_passed_not _ node c.loop-near.near.k c.loop-near.near.at 8 is (c.loop-near.invariant.3 node is begun).0 (omega arith) c.in-None.ensures

pub returns-in-None-bounds_in : goal.returns-in-None-bounds_in
returns-in-None-bounds_in c = λ node is begun. ninth_not _ node c.loop-near.near.k _ _ is (c.loop-near.invariant.3 node is begun).0 (omega arith) c.in-Some.ensures.passed c.in-None-bounds_in.ensures.none

pub loop-near-preserved : goal.loop-near-preserved
loop-near-preserved c =
    let lies = c.in-Some-bounds_in.ensures.some in
    let kept = c.loop-near.invariant in
    let low = kept.0 in
    let from = c.in-Some.ensures.within.0 in
    let k = c.loop-near.near.k in
    let passed = c.in-Some.ensures.passed in (
      omega arith,
      search rules,
      omega arith,
      λ node is begun.
          let n = is.count in
          let place = (kept.3 node is begun).0 in
          let below = told_of is_lt _ c.args.key.now node (k + 8) _ _ _ _ is (omega arith) (ninth _ node k _ _ is place (omega arith) passed) lies c.is_below.ensures ∙ c.if-not-is_below.false in
          (ninth_end _ node k _ _ is place (omega arith) passed _ _ lies, λ rises j less. below_middle node.entries c.args.key.now (k + 8) rises (omega arith) (is_less _ below) j (omega arith)),
    )

pub loop-near-init : goal.loop-near-init
loop-near-init c = (c.begun_at-near.ensures.within.0, c.begun_at-near.ensures.within.1, c.begun_at-near.ensures.within.2, λ node is begun. c.begun_at-near.ensures.below c.args.key.now node.entries begun)
