use Rattle.{std.proofs.Common.{refl, ◌∙◌}, gal_text.proofs.HoldingLemmas.{unit_taken, mark_says}}
use Rattle.gal_text.proofs.units.Graph.take_unit.Goals as goal

pub returns : goal.returns
returns c = λ blocks p rising holds here.
    unit_taken blocks c.args.self.now _ p c.args.place c.args.id c.args.number rising holds c.requires here
    (mark_says blocks c.args.self.now p c.args.place c.args.id c.index.result.now holds c.requires here c.index.ensures ∙ c.if-index.false)
    refl refl refl c.len-self.ensures c.saturating_sub-self.ensures refl
