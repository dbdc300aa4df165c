use Rattle.desk_gallery.proofs.office.Office.copy.Goals as goal

pub returns : goal.returns
returns g c = (_, c.copy_shown-did.ensures)
