use Rattle.{std.proofs.Common.{ap, ◌∙◌}, desk_model.{specs.Ranges.ranges_of_blocks, proofs.Pairs.{told_sorted, geography_made}}}
use Rattle.desk_model.proofs.geography.Geography.make.Goals as goal

pub invariant_of-result : goal.invariant_of-result
invariant_of-result c = record {
  sound = geography_made c.args.blocks.items c.args.pairs.now c.sort_pairs.new.pairs.items c.requires.blocks
      (told_sorted c.args.blocks.items c.args.pairs.now _ _ (rw c.as_slice.ensures.value at c.in_ok-placed.ensures) c.sort_pairs.ensures.kept) c.sort_pairs.ensures.rising;
  counties = c.in_ok-counties.ensures ∙ ap ranges_of_blocks c.as_slice-2.ensures.value;
}

pub returns-clause-pairs : goal.returns-clause-pairs
returns-clause-pairs c = told_sorted c.args.blocks.items c.args.pairs.now _ _ (rw c.as_slice.ensures.value at c.in_ok-placed.ensures) c.sort_pairs.ensures.kept
