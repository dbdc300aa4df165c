use Rattle.std.proofs.{Common.{◌≤◌, arith}, lemmas.Bool.Decides.nat_tests}
use Rattle.library_trials.proofs.scan_trials.scanned.Goals as goal

pub range-n-items-requires : goal.range-n-items-requires
range-n-items-requires g c = let order : c.args.from ≤ c.args.to = c.requires.order in grind (arith, nat_tests)
