use Rattle.{std.{specs.List.filter_map, proofs.Common.{◌≡◌, take}}, gal_text.specs.Pairing.downward_pair}
use Rattle.gal_text.proofs.links.downward.Given as goal

abbrev pub invariant-loop-link : goal.invariant-loop-link
invariant-loop-link l = l.pairs.items ≡ filter_map downward_pair (take l.link-index l.links)
