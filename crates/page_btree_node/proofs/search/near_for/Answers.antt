use Rattle.{std.{specs.Ordering.is_gt, proofs.Common.{◌+◌, arith, ◌∙◌, rules}}, page_btree_node.proofs.{Nearing.{ninth, ninth_not, ninth_end, ninth_last}, Passed.node_passed_not}}
use Rattle.page_btree_node.proofs.Scanning.{told_of}
use Rattle.page_btree_node.proofs.search.near_for.Goals as goal

pub returns-in-None : goal.returns-in-None
returns-in-None c = λ node is.
    node_passed_not _ node c.loop-near.near.k c.loop-near.near.at 8 is (c.loop-near.invariant.3 node is) (omega arith) c.in-None.ensures

pub returns-in-None-bounds_in : goal.returns-in-None-bounds_in
returns-in-None-bounds_in c = λ node is. ninth_not _ node c.loop-near.near.k _ _ is (c.loop-near.invariant.3 node is) (omega arith) c.in-Some.ensures.passed c.in-None-bounds_in.ensures.none

pub loop-near-preserved : goal.loop-near-preserved
loop-near-preserved c =
    let lies = c.in-Some-bounds_in.ensures.some in
    let place = c.loop-near.invariant.3 in
    let k = c.loop-near.near.k in
    let passed = c.in-Some.ensures.passed in (
      search rules,
      omega arith,
      omega arith,
      λ node is. ninth_end _ node k _ _ is (place node is) (omega arith) passed _ _ lies,
      λ node is rises.
          let from = told_of is_gt _ c.args.key.now node (k + 8) _ _ _ _ is (omega arith) (ninth _ node k _ _ is (place node is) (omega arith) passed) lies c.is_above.ensures ∙ c.if-is_above.false in
          ninth_last _ node k _ _ is (place node is) (omega arith) passed c.args.key.now _ _ lies rises from,
    )
