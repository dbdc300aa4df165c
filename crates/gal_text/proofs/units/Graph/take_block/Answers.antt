use Rattle.{std.proofs.Common.rules, gal_text.proofs.HoldingLemmas.block_said}
use Rattle.gal_text.proofs.units.Graph.take_block.Goals as goal

pub returns-in-Some : goal.returns-in-Some
returns-in-Some c = search (rules, c.in-Some.ensures.0, c.take_unit.ensures, c.requires.rising, c.in-Some.ensures.2, block_said)
