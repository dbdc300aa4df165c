use Rattle.{std.proofs.Common.subst, desk_gallery.{specs.Fronts.{Kept, ShowsAll}, proofs.Working.opens_shown}}
use Rattle.desk_gallery.proofs.front.Front.is_kept.Goals as goal

pub returns : goal.returns
returns g c =
    let agree = c.self.invariant.0 in
    subst (λ (k : Kept g.row.D.Denot). ShowsAll g.D.SectorDevice g.J.GalleryId.first g.J.GalleryId.sound k) c.self.view_is (search (opens_shown, c.self.invariant.1))
