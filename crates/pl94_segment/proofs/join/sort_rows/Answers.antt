use Rattle.{std.proofs.{Common.rules, lemmas.List.Sorted.IsNonDecreasingBy-from_sort_by_key}, desk_model.specs.declared.block.BlockRow.BlockRow}
use Rattle.pl94_segment.proofs.JoinLemmas.{ids_rise}
use Rattle.pl94_segment.proofs.join.sort_rows.Goals as goal

pub returns-clause-sorted : goal.returns-clause-sorted
returns-clause-sorted c =
    ids_rise _ (IsNonDecreasingBy-from_sort_by_key (λ (b : BlockRow). b.id) _ c.sort_unstable_by_key.ensures.sorted (λ a r q k. search rules))
