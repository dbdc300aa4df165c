use Rattle.{std.proofs.Common.rules, desk_theorem_lives.proofs.VersionLiving.{barred_lives, led_lives}}
use Rattle.desk_theorem_lives.proofs.leading.lead_in.Goals as goal

pub returns-in-Err : goal.returns-in-Err
returns-in-Err g c = search (rules, c.in-Err.ensures, barred_lives)

pub returns : goal.returns
returns g c = search (rules, c.in-Ok.ensures, c.into_device.ensures, c.lead-led.ensures, led_lives)
