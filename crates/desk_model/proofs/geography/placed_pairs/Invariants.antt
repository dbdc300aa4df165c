use Rattle.{std.proofs.Common.take, desk_model.specs.claim.GeographyModels.AreTold}
use Rattle.desk_model.proofs.geography.placed_pairs.Given as goal

abbrev pub invariant-loop-pair : goal.invariant-loop-pair
invariant-loop-pair l = AreTold l.blocks (take l.pair-index l.told) l.pairs.items
