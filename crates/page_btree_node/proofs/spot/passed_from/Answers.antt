use Rattle.{std.proofs.Common.arith, page_btree_node.proofs.Passed.{node_passed, node_passed_not}}
use Rattle.page_btree_node.proofs.spot.passed_from.Goals as goal

pub returns-in-None : goal.returns-in-None
returns-in-None c = λ node is le begins.
    node_passed_not _ node c.loop-near.near.k c.loop-near.near.at 8 is (c.loop-near.invariant.2 node is le begins).1 (omega arith) c.in-None.ensures

pub loop-near-preserved : goal.loop-near-preserved
loop-near-preserved c =
    let order = c.in-Some.ensures.within in
    let low = c.loop-near.invariant.0 in (
      omega arith,
      order.1,
      λ node is le begins.
          let place = c.loop-near.invariant.2 node is le begins in
          (omega arith, node_passed _ node c.loop-near.near.k c.loop-near.near.at 8 c.in-Some.at is place.1 (omega arith) c.in-Some.ensures.passed),
    )
