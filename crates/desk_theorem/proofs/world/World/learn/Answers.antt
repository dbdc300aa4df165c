use Rattle.{std.proofs.Common.{◌≡◌, map, slice_set, vec_len, refl, subst, arith}, desk_theorem.specs.{claim.World.{world, move}, declared.event.Event.TheVariants.Learn}}
use Rattle.desk_theorem.proofs.{Core.moved_ordered, Worlds.learnt_read}
use Rattle.desk_theorem.proofs.world.World.learn.Goals as goal

pub invariant_of-self : goal.invariant_of-self
invariant_of-self c =
    let inside = c.self.inside in
    let old = world (map (λ x. x.command) inside.changes.items) inside.acknowledged inside.shown inside.views.items in
    let is = learnt_read inside.first.value old c.args.visitor c.args.told (vec_len inside.views) c.index-known.result.now c.max.result
    (omega (arith, c.if-told-self.false)) (omega (arith, c.if-visitor-len.false, c.len.ensures)) (omega arith) c.index-known.ensures c.max.ensures in
    (c.self.invariant.0, rw is (moved_ordered inside.first.value old (Learn c.args.visitor c.args.told) c.self.invariant.1))

pub returns-clause-moved : goal.returns-clause-moved
returns-clause-moved c =
    let inside = c.self.inside in
    let old = world (map (λ x. x.command) inside.changes.items) inside.acknowledged inside.shown inside.views.items in
    let is = learnt_read inside.first.value old c.args.visitor c.args.told (vec_len inside.views) c.index-known.result.now c.max.result
    (omega (arith, c.if-told-self.false)) (omega (arith, c.if-visitor-len.false, c.len.ensures)) (omega arith) c.index-known.ensures c.max.ensures in
    let views = slice_set inside.views.items c.args.visitor c.max.result in
    (refl, subst (λ w. world old.changes inside.acknowledged inside.shown views ≡ move w.0 w.1 (Learn c.args.visitor c.args.told)) c.self.view_is is)
