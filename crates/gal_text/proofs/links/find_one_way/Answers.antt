use Rattle.{std.proofs.lemmas.Slice.Eq.slice_eq-Decides, gal_text.proofs.LinkLemmas.{pair_decides, mutual_from_equal, least_or_mutual}}
use Rattle.gal_text.proofs.links.find_one_way.Goals as goal

pub returns-then-eq : goal.returns-then-eq
returns-then-eq c = mutual_from_equal _ _ _ c.requires ((slice_eq-Decides pair_decides _ _ _ c.eq.ensures).0 c.if-eq.true)

pub returns : goal.returns
returns c = least_or_mutual c.args.links.now c.least_one_way.result c.least_one_way.ensures
