use Rattle.{std.proofs.lemmas.Option.MatchOption-at_none, gal_text.{specs.claim.Links.{AreMutual, IsLeastOneWay}, proofs.LinkLemmas.{cut_from_sorted, pairs_from_cut}}}
use Rattle.gal_text.proofs.links.pairs_of.Goals as goal

pub find_one_way-requires : goal.find_one_way-requires
find_one_way-requires c =
    rw (c.as_slice-3.ensures.value, c.as_slice-4.ensures.value, c.as_slice-5.ensures.value)
    (cut_from_sorted c.args.links.items _ _ _ _ (rw c.as_slice.ensures.value at c.in-Ok.ensures) c.sort_pairs.ensures.rising c.sort_pairs.ensures.kept
    (rw c.as_slice-2.ensures.value at c.in-Ok-downward.ensures) c.sort_pairs-2.ensures.rising c.sort_pairs-2.ensures.kept)

pub returns : goal.returns
returns c = (
  rw c.as_slice-3.ensures.value at
      (MatchOption-at_none (AreMutual c.as_slice-3.result.now) (λ l. IsLeastOneWay c.as_slice-3.result.now l.from l.to) c.in_default-find_one_way.is c.find_one_way.ensures),
  pairs_from_cut c.args.links.items _ _
      (cut_from_sorted c.args.links.items _ _ _ _ (rw c.as_slice.ensures.value at c.in-Ok.ensures) c.sort_pairs.ensures.rising c.sort_pairs.ensures.kept
      (rw c.as_slice-2.ensures.value at c.in-Ok-downward.ensures) c.sort_pairs-2.ensures.rising c.sort_pairs-2.ensures.kept),
)
