use Rattle.std.proofs.Common.{inr}
use Rattle.desk_gallery.proofs.office.Office.sweep_next.Goals as goal

pub returns : goal.returns
returns g c = inr (c.moves-moves.result, record { old = _; did = c.sweep_step-did.result; new = _; sweeps = c.sweep_step-did.ensures.sweeps; came_to = c.outcome_of.ensures })
