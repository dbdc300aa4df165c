use Rattle.{std.proofs.Common.rules, desk_theorem_lives.proofs.DeskLiving.{may_fail, may_refuse, refused_for}}
use Rattle.desk_theorem_lives.proofs.desk_lives.load.Goals as goal

pub returns-in-Err : goal.returns-in-Err
returns-in-Err g c = search (rules, c.in-Err.ensures, may_refuse, may_fail, refused_for)
