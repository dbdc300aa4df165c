use Rattle.std.proofs.Common.{◌≡◌, ◌-◌, arith, refl}
use Rattle.check_command.proofs.counts.zeros.Goals as goal

pub returns-in_default : goal.returns-in_default
returns-in_default c = let e : 3 - c.args.digits ≡ 0 = omega arith in rw e refl
