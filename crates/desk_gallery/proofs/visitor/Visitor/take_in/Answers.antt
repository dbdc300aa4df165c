use Rattle.desk_gallery.proofs.Afters.{after_learned}
use Rattle.desk_gallery.proofs.visitor.Visitor.take_in.Goals as goal

pub returns-clause-led : goal.returns-clause-led
returns-clause-led g c d comes = after_learned g.J.GalleryId.first _ _ c.learn.new.self d comes c.learn.ensures.one c.learn.ensures.this c.learn.ensures.that
