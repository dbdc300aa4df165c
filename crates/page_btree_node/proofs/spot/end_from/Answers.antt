use Rattle.{std.proofs.Common.arith, page_btree_node.proofs.Scanning.{entry_of, end_there}}
use Rattle.page_btree_node.proofs.spot.end_from.Goals as goal

pub loop-k-preserved : goal.loop-k-preserved
loop-k-preserved c =
    let lies = c.in-Some-bounds_in.ensures.some in
    let low = c.loop-k.invariant.0 in (
      omega arith,
      lies.within,
      λ node is le begins. search (entry_of _ node c.loop-k.k c.loop-k.end is (omega arith) (c.loop-k.invariant.2 node is le begins), end_there),
    )
