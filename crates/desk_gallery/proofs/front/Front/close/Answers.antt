use Rattle.{std.proofs.Common.subst, desk_gallery.{specs.{Fronts.Kept, claim.Begun.HasRun}, proofs.Working.{is_clerk_of, shown_accepted}}}
use Rattle.desk_gallery.proofs.front.Front.close.Goals as goal

pub returns : goal.returns
returns g c =
    let was = c.self.inside in
    record {
      accepted = shown_accepted g.J.GalleryId.first was.clerk was.shower c.args.self c.self.view_is c.self.invariant.0;
      ran = (was.books.halted.total, subst (λ (k : Kept g.row.D.Denot). HasRun g.J.GalleryId.begins g.J.GalleryId.asked was.clerk k.shown was.books.halted.total) c.self.view_is c.self.invariant.2);
      clerk = is_clerk_of g.J.GalleryId.first was.clerk was.shower c.args.self c.self.view_is c.self.invariant.0;
      kept = c.self.invariant.1;
    }
