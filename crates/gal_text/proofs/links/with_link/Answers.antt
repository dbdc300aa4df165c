use Rattle.{std.proofs.Common.rules, gal_text.proofs.LinkLemmas.answered_more}
use Rattle.gal_text.proofs.links.with_link.Goals as goal

pub returns-then-is_one_way : goal.returns-then-is_one_way
returns-then-is_one_way c =
    λ links seen cut there least. c.with_one_way.ensures links seen ((c.is_one_way.ensures links cut there).0 c.if-is_one_way.true) least

pub returns : goal.returns
returns c = search (rules, c.if-is_one_way.false, c.is_one_way.ensures, answered_more)
