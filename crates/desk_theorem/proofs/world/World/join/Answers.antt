use Rattle.{std.{specs.Result.is_ok, proofs.Common.{◌≡◌, sym, subst}}, desk_model.specs.claim.Step.step, http_desk.specs.seats.desk_gallery.claim.After.after}
use Rattle.desk_theorem.proofs.Worlds.{joined}
use Rattle.desk_theorem.proofs.world.World.join.Goals as goal

pub invariant_of-self : goal.invariant_of-self
invariant_of-self c =
    let next = subst (λ w. c.args.change.catalogue.value ≡ (step (after w.0 w.1.changes) c.args.change.command).1) (sym c.self.view_is) c.requires in
    joined c.self.inside.first.value c.self.inside.changes.items c.push.new.self.items c.args.change c.self.inside.acknowledged c.self.inside.shown c.self.inside.views.items
    (is_ok c.push.result) c.push.ensures.items c.self.invariant.0 c.self.invariant.1 next
