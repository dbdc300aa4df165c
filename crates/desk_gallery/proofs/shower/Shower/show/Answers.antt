use Rattle.{std.{specs.Prelude.MatchOption, proofs.Common.{rules, ◌≡◌, List, Some, None, ap, sym, subst, ◌∙◌}}, desk_gallery.{specs.claim.After.after, proofs.Afters.waits}}
use Rattle.desk_model.specs.declared.command.Command.{Command}
use Rattle.desk_gallery.proofs.shower.Shower.show.Goals as goal

pub publish-requires : goal.publish-requires
publish-requires g c =
    let old = c.self.inside.whole in
    let some : c.self.inside.pending ≡ Some c.in-Some.shown = search rules in
    (old.1, waits g.J.GalleryId.root g.J.GalleryId.first old some c.self.invariant.3 c.mark.ensures.mark c.mark.ensures.changes c.show.ensures c.push.ensures.pending)

pub invariant_of-self-2 : goal.invariant_of-self-2
invariant_of-self-2 g c =
    let old = c.self.inside.whole in
    let some : c.self.inside.pending ≡ Some c.in-Some.shown = search rules in
    let none : c.take.new.self ≡ None = search rules in
    let first = ap (λ (s : List Command × List Command). s.0) c.show.ensures in
    let same : c.show.new.self.0 ≡ c.show.new.self.1 = first ∙ sym (ap (λ (s : List Command × List Command). s.1) c.show.ensures) in
    let shown = c.publish.ensures old.1 (waits g.J.GalleryId.root g.J.GalleryId.first old some c.self.invariant.3 c.mark.ensures.mark c.mark.ensures.changes c.show.ensures c.push.ensures.pending) in (
      shown.1,
      shown.0 ∙ sym first,
      shown.2,
      subst (λ o. MatchOption o (c.show.new.self.0 ≡ c.show.new.self.1) (λ catalogue. catalogue.value ≡ after g.J.GalleryId.first c.show.new.self.1)) (sym none) same,
    )
