use Rattle.store_command.proofs.Swept.{has_swept, device_swept}
use Rattle.store_command.proofs.sweep.sweep_device.Goals as goal

pub returns : goal.returns
returns g c = search (device_swept, has_swept, c.one_desk_opens.ensures, c.in-Ok.ensures.ok, c.in-Ok.ensures.shows, c.sweep_all-swept.ensures.sweeps)
