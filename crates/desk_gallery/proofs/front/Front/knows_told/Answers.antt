use Rattle.desk_gallery.proofs.front.Front.knows_told.Goals as goal

pub invariant_of-self : goal.invariant_of-self
invariant_of-self g c = search c.knows.ensures.same
