use Rattle.{std.proofs.{Common.{◌≡◌, length, map, refl, subst, arith}, lemmas.List.length-map}, desk_theorem.{specs.claim.World.{world, move}, proofs.Worlds.acknowledged_to}}
use Rattle.desk_theorem.specs.declared.event.Event.TheVariants.{Acknowledge}
use Rattle.desk_theorem.proofs.world.World.acknowledge.Goals as goal

pub invariant_of-self : goal.invariant_of-self
invariant_of-self c =
    let o = c.self.invariant.1 in
    let all = length-map c.self.inside.changes.items (λ x. x.command) in
    (c.self.invariant.0, record { views = o.views; shown = omega (arith, c.len-self-inside.ensures); acknowledged = omega (arith, c.len-self-inside.ensures) })

pub returns-clause-moved : goal.returns-clause-moved
returns-clause-moved c =
    let inside = c.self.inside in
    let old = world (map (λ x. x.command) inside.changes.items) inside.acknowledged inside.shown inside.views.items in
    let all : c.len-self-inside.result ≡ length old.changes = omega (arith, c.len-self-inside.ensures, length-map inside.changes.items (λ x. x.command)) in
    let is = acknowledged_to inside.first.value old c.len-self-inside.result all c.self.invariant.1.acknowledged in
    (refl, subst (λ w. world old.changes c.len-self-inside.result inside.shown inside.views.items ≡ move w.0 w.1 Acknowledge) c.self.view_is is)
