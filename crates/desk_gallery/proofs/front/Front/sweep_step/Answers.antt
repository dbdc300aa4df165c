use Rattle.{std.proofs.Common.ap, desk_gallery.proofs.{Running.has_run_tended, Working.{agree_tended, sweeps_of}}}
use Rattle.desk_gallery.proofs.front.Front.sweep_step.Goals as goal

pub invariant_of-self : goal.invariant_of-self
invariant_of-self g c =
    let tends = c.tend-is_checked.ensures.tends in
    let x = c.self.inside.clerk in
    let y = c.tend-is_checked.new.clerk in
    let is = c.tend-is_checked.result.0 in
    let ran = has_run_tended g.J.GalleryId.begins g.J.GalleryId.asked x y c.self.inside.shower.0 c.self.inside.books.halted.total c.self.inside.is_checked is c.self.invariant.2 c.self.invariant.3 tends in (
      agree_tended g.J.GalleryId.first c.self.inside.is_checked x is y c.self.inside.shower c.self.invariant.0 tends,
      λ sound. tends.moves.keeps (c.self.invariant.1 sound),
      ran.0,
      ran.1,
      c.self.invariant.4,
    )

pub returns : goal.returns
returns g c = record { sweeps = search sweeps_of; shown = (ap (λ k. k.shown) c.self.view_is, ap (λ k. k.all) c.self.view_is) }
