use Rattle.{std.proofs.Common.rules, store_command.proofs.Swept.{kept_after, swept_after}}
use Rattle.store_command.proofs.sweeping.sweep_all.Goals as goal

pub returns-in-Ok : goal.returns-in-Ok
returns-in-Ok g c = record { keeps = search (rules, kept_after); sweeps = search (rules, c.in-Ok.ensures, swept_after) }
