use Rattle.{std.proofs.Common.rules, gal_text.proofs.LinkLemmas.searched_pair}
use Rattle.gal_text.proofs.links.has_pair.Goals as goal

pub returns : goal.returns
returns c = search (rules, c.requires, c.binary_search.ensures.bound, c.binary_search.ensures.ok, c.binary_search.ensures.position, c.is_ok.ensures.value, searched_pair)
