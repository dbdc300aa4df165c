use Rattle.{std.proofs.Common.◌-◌, desk_model.specs.Geography.IsBetween}
use Rattle.desk_model.proofs.geography.place_between.Given as goal

abbrev pub invariant-loop-low : goal.invariant-loop-low
invariant-loop-low l = IsBetween l.blocks l.fn.id l.low l.high

abbrev pub decreases-loop-low : goal.decreases-loop-low
decreases-loop-low l = l.high - l.low
