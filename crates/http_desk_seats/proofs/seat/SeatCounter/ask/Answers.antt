use Rattle.http_desk_seats.proofs.Geographies.{may_be_asked, same_geography}
use Rattle.http_desk_seats.proofs.seat.SeatCounter.ask.Goals as goal

pub answered-requires : goal.answered-requires
answered-requires g c = may_be_asked (λ s. s.value) g.J.GalleryId.first c.visit-shown.new.self c.visit-shown.result _ c.visit-shown.ensures.value c.self.invariant

pub invariant_of-self : goal.invariant_of-self
invariant_of-self g c = c.answered.ensures.last g.J.GalleryId.first.geography (same_geography (λ s. s.value) g.J.GalleryId.first c.visit-shown.new.self c.visit-shown.result c.visit-shown.ensures.value) c.self.invariant
