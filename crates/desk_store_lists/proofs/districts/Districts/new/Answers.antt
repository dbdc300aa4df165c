use Rattle.{std.proofs.Common.{◌/◌, length, refl, arith}, desk_store_lists.proofs.Cut.{next_full, next_same, whole, cut_of}}
use Rattle.desk_store_lists.proofs.districts.Districts.new.Goals as goal

pub loop-place-preserved : goal.loop-place-preserved
loop-place-preserved c = record {
  are_full = next_full c.loop-place.full.items c.push.new.self.items c.in_ok-piece_of.field-0 c.args.list.now c.after.result.now c.prefix-part.result.now c.loop-place.place
      c.in_ok-push.ensures.items c.in_ok-piece_of.ensures c.prefix-part.ensures c.after.ensures (omega arith) c.loop-place.invariant.are_full;
  same = next_same c.loop-place.full.items c.push.new.self.items c.in_ok-piece_of.field-0 c.args.list.now c.after.result.now c.prefix-part.result.now c.loop-place.place
      c.in_ok-push.ensures.items c.in_ok-piece_of.ensures c.prefix-part.ensures c.after.ensures (omega arith) c.loop-place.invariant.same;
}

pub invariant_of-result : goal.invariant_of-result
invariant_of-result c =
    let made = whole c.loop-place.full.items c.in_ok-rest.rest c.args.list.now c.after-2.result.now c.loop-place.place (length c.args.list.now / 512) c.loop-place.invariant.same c.in_ok-rest.ensures c.after-2.ensures (omega arith) in
    cut_of c.loop-place.full.items c.in_ok-rest.rest c.args.list.now (length c.args.list.now) c.loop-place.invariant.are_full made refl (λ i. let fits = c.type_inv.list i in omega arith)

pub returns : goal.returns
returns c = whole c.loop-place.full.items c.in_ok-rest.rest c.args.list.now c.after-2.result.now c.loop-place.place (length c.args.list.now / 512) c.loop-place.invariant.same c.in_ok-rest.ensures c.after-2.ensures (omega arith)
