use Rattle.std.proofs.{Common.rules, lemmas.List.{Filters.dedup_is, Kept.{Contains-dedup, Contains-from_dedup}, Sorted.{Contains-permutation, IsPermutation-sym}}}
use Rattle.desk_model.proofs.Pairs.{pair_eq, pair_eq_equiv, pair_eq_is, deduped_rising}
use Rattle.desk_model.proofs.geography.sort_pairs.Goals as goal

pub returns-clause-rising : goal.returns-clause-rising
returns-clause-rising c = rw (dedup_is _ _ _ c.dedup.ensures.filtered) (deduped_rising _ c.sort_unstable.ensures.sorted)

pub returns-clause-kept : goal.returns-clause-kept
returns-clause-kept c =
    let is = dedup_is _ _ _ c.dedup.ensures.filtered in
    let moved = c.sort_unstable.ensures.permutation in
    λ p. (
      λ there. search (rules, Contains-dedup pair_eq_equiv pair_eq_is _ p (Contains-permutation _ _ p moved there)),
      λ there. Contains-permutation _ _ p (IsPermutation-sym _ _ moved) (Contains-from_dedup pair_eq _ p (rw is at there)),
    )
