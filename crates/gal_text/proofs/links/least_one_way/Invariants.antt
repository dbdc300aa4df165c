use Rattle.{std.proofs.Common.take, gal_text.specs.Pairing.IsLeastOrNone}
use Rattle.gal_text.proofs.links.least_one_way.Given as goal

abbrev pub invariant-loop-link : goal.invariant-loop-link
invariant-loop-link l = IsLeastOrNone l.links (take l.link-index l.links) l.least
