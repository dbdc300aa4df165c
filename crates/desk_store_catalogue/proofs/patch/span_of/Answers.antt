use Rattle.{std.proofs.Common.arith, desk_store_catalogue.proofs.Overlays.none_outside}
use Rattle.desk_store_catalogue.proofs.patch.span_of.Goals as goal

pub returns : goal.returns
returns c = none_outside c.part-first.result.0 c.part-first.result.1.now c.args.listed.now c.part-first.ensures

pub overflow_add-result : goal.overflow_add-result
overflow_add-result c = omega (arith, c.part-first.ensures.within, c.len-count.ensures, c.len-count.type_inv)
