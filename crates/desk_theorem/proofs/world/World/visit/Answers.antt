use Rattle.{std.proofs.Common.{◌≤◌, length, map, refl, subst, arith, le_trans}, desk_theorem.specs.{claim.World.world, declared.event.Event.TheVariants.Visit}}
use Rattle.desk_theorem.proofs.Core.{moved_ordered}
use Rattle.desk_theorem.proofs.world.World.visit.Goals as goal

pub catalogue-requires : goal.catalogue-requires
catalogue-requires c = subst (λ w. c.self.inside.shown ≤ length w.1.changes) c.self.view_is (le_trans c.self.invariant.1.shown c.self.invariant.1.acknowledged)

pub invariant_of-self : goal.invariant_of-self
invariant_of-self c =
    let inside = c.self.inside in
    let old = world (map (λ x. x.command) inside.changes.items) inside.acknowledged inside.shown inside.views.items in
    (c.self.invariant.0, moved_ordered inside.first.value old (Visit c.args.visitor c.args.query) c.self.invariant.1)

pub returns-then-visitor-len-clause-moved : goal.returns-then-visitor-len-clause-moved
returns-then-visitor-len-clause-moved c = (subst (λ w. length w.1.views ≤ c.args.visitor) c.self.view_is (omega (arith, c.if-visitor-len.true, c.len.ensures)), refl)
