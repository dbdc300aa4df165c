use Rattle.{std.proofs.Common.{◌+◌, ◌∙◌, ap, take, arith}, desk_store_lists.proofs.Cut.put_more}
use Rattle.desk_store_lists.proofs.districts.Districts.part.Goals as goal

pub loop-place-preserved : goal.loop-place-preserved
loop-place-preserved c = record {
  put = put_more c.extend_from_slice.new.self.items c.loop-place.part.items c.args.self.now c.in_ok-here.here.items c.prefix.result.now
      c.loop-place.place (c.args.first + c.args.count) c.min-some.result c.in_ok-extend_from_slice.ensures.items (c.prefix.ensures ∙ ap (take c.min-some.result) c.as_slice.ensures.value) c.in_ok-here.ensures.prefix
      (omega (arith, c.in_ok-here.here.ok.0)) (omega arith)
      ∙ c.loop-place.invariant.put;
  within = omega arith;
}
