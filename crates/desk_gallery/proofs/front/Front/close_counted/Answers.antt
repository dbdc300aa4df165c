use Rattle.{std.proofs.Common.{◌≡◌, ◌∙◌, length, sym, subst, rules}, desk_gallery.{specs.Fronts.Kept, proofs.Working.{is_clerk_of, shown_accepted}}}
use Rattle.desk_gallery.proofs.front.Front.close_counted.Goals as goal

pub returns : goal.returns
returns g c = record {
  accepted = shown_accepted g.J.GalleryId.first c.self.inside.clerk c.self.inside.shower c.args.self c.self.view_is c.self.invariant.0;
  ran = search rules;
  counted = subst (λ (k : Kept g.row.D.Denot). length k.shown ≡ c.args.tallies.accepted.amount) c.self.view_is (sym (c.audit.ensures.accepted ∙ c.self.invariant.4));
  clerk = is_clerk_of g.J.GalleryId.first c.self.inside.clerk c.self.inside.shower c.args.self c.self.view_is c.self.invariant.0;
  kept = c.self.invariant.1;
}
