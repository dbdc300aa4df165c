use Rattle.{std.proofs.Common.{◌≡◌, ◌∙◌, ◌≤◌, ap, sym, subst, length, take}, http_desk.specs.seats.desk_gallery.claim.After.after, desk_theorem.proofs.Worlds.catalogued}
use Rattle.desk_theorem.proofs.world.World.catalogue.Goals as goal

pub returns : goal.returns
returns c =
    let within = subst (λ w. c.args.number ≤ length w.1.changes) (sym c.self.view_is) c.requires in
    subst (λ w. c.deref-2.result.now ≡ after w.0 (take c.args.number w.1.changes)) c.self.view_is
    (c.deref-2.ensures ∙ (ap (λ x. x.catalogue.value) c.index.ensures ∙ catalogued c.self.inside.first.value c.self.inside.changes.items c.args.number c.index.result.now c.self.invariant.0 c.if-number-eq0.false within))
