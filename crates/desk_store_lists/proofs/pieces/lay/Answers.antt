use Rattle.{std.proofs.Common.arith, desk_store_lists.proofs.Laying.laid_all}
use Rattle.desk_store_lists.proofs.pieces.lay.Goals as goal

pub returns : goal.returns
returns c =
    laid_all c.args.first c.args.listed.now c.args.start c.args.districts.now c.loop-k.districts c.loop-k.k c.loop-k.invariant
    (omega (arith, c.loop-k-test.false, c.loop-k.auto.districts, c.loop-k.auto.k-end))
