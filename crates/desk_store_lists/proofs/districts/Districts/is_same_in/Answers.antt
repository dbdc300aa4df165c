use Rattle.{std.proofs.Common.{◌+◌, sym, ◌∙◌, arith}, desk_store_lists.proofs.Cut.{skipped, apart_at}}
use Rattle.desk_store_lists.proofs.districts.Districts.is_same_in.Goals as goal

pub returns-then-next-place : goal.returns-then-next-place
returns-then-next-place c =
    sym (apart_at c.args.self.now c.args.other.now c.loop-place.place (c.args.first + c.args.count) c.loop-place-test.true (c.same_until-next.ensures.apart c.if-next-place.true))
    ∙ c.loop-place.invariant.left

pub loop-place-preserved : goal.loop-place-preserved
loop-place-preserved c = record {
  left =
      skipped c.args.self.now c.args.other.now c.loop-place.place (c.args.first + c.args.count) c.same_until-next.result c.min-place.result
      (omega (arith, c.min-place.ensures, c.same_until-next.ensures.after, c.loop-place-test.true)) (omega (arith, c.min-place.ensures)) (omega (arith, c.min-place.ensures))
      c.same_until-next.ensures.same
      ∙ c.loop-place.invariant.left;
  within = omega (arith, c.min-place.ensures);
}
