use Rattle.{std.{specs.List.filter_map, proofs.Common.{◌≡◌, take}}, gal_text.specs.Pairing.upward_pair}
use Rattle.gal_text.proofs.links.upward.Given as goal

abbrev pub invariant-loop-link : goal.invariant-loop-link
invariant-loop-link l = l.pairs.items ≡ filter_map upward_pair (take l.link-index l.links)
