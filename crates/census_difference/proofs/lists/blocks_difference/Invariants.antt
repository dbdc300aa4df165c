use Rattle.std.proofs.Common.{◌≡◌, take}
use Rattle.census_difference.proofs.lists.blocks_difference.Given as goal

abbrev pub invariant-loop-k : goal.invariant-loop-k
invariant-loop-k l = take l.k l.stored ≡ take l.k l.said
