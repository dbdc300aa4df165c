use Rattle.{std.proofs.Common.refl, pl94_geo.proofs.HoldingLemmas.holds_none}
use Rattle.pl94_geo.proofs.header.Header.new.Goals as goal

pub returns : goal.returns
returns c = holds_none _ refl refl c.new.ensures.items c.new-2.ensures c.new-3.ensures
