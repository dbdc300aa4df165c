use Rattle.std.proofs.Common.{refl, inr, rules}
use Rattle.inspect_command.proofs.stat.stat_store.Goals as goal

pub returns-in-Err-put_figures : goal.returns-in-Err-put_figures
returns-in-Err-put_figures g c = inr (inr (inr (refl, (c.in-Ok.figures, search rules))))
