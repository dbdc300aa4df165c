use Rattle.{std.proofs.Common.{sym, ◌∙◌}, gal_text.proofs.HoldingLemmas.met_as}
use Rattle.gal_text.proofs.units.Graph.take.Goals as goal

pub returns-in-Block : goal.returns-in-Block
returns-in-Block c = λ p holds.
    met_as c.args.blocks.now p c.args.number c.args.word.now _ c.take_block.result c.take_block.new.self (sym holds.next ∙ c.in-Block.is) (c.take_block.ensures p holds)

pub returns-in-Neighbour : goal.returns-in-Neighbour
returns-in-Neighbour c = λ p holds.
    met_as c.args.blocks.now p c.args.number c.args.word.now _ c.take_neighbour.result c.take_neighbour.new.self (sym holds.next ∙ c.in-Neighbour.is) (c.take_neighbour.ensures p holds (sym holds.next ∙ c.in-Neighbour.is))
