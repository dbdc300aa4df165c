use Rattle.{std.proofs.Common.{◌≤◌, ◌-◌, length}, desk_model.specs.Geography.IsBetween}
use Rattle.desk_model.proofs.geography.upward.Given as goal

abbrev pub invariant-loop-at : goal.invariant-loop-at
invariant-loop-at l = record { between : IsBetween l.blocks l.fn.id l.low (length l.blocks); some : 1 ≤ l.step }

abbrev pub decreases-loop-at : goal.decreases-loop-at
decreases-loop-at l = length l.blocks - l.at
