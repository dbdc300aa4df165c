use Rattle.desk_model.specs.Geography.{IsBetween}
use Rattle.desk_model.proofs.geography.downward.Given as goal

abbrev pub invariant-loop-high : goal.invariant-loop-high
invariant-loop-high l = IsBetween l.blocks l.fn.id 0 l.high

abbrev pub decreases-loop-high : goal.decreases-loop-high
decreases-loop-high l = l.high
