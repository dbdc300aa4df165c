use Rattle.{std.proofs.Common.rules, desk_theorem_lives.proofs.DeskLiving.swept_for}
use Rattle.desk_theorem_lives.proofs.desk_lives.sweep.Goals as goal

pub returns-in-Err : goal.returns-in-Err
returns-in-Err g c = search (rules, c.in-Err.ensures, swept_for)
