use Rattle.{std.proofs.Common.{◌∙◌, List, ap, sym}, desk_model.specs.declared.command.Command.Command, desk_gallery.proofs.Afters.after_appended}
use Rattle.desk_gallery.proofs.shower.Shower.append.Goals as goal

pub invariant_of-self : goal.invariant_of-self
invariant_of-self g c = (
  c.self.invariant.0,
  c.self.invariant.1 ∙ sym (ap (λ (s : List Command × List Command). s.0) c.append.ensures),
  c.self.invariant.2,
  after_appended g.J.GalleryId.first c.in_ok-after.ensures c.self.view_is c.requires.step c.command.ensures c.append.ensures,
)

pub returns-clause-after : goal.returns-clause-after
returns-clause-after g c = after_appended g.J.GalleryId.first c.in_ok-next.ensures c.self.view_is c.requires.step c.command.ensures c.append.ensures
