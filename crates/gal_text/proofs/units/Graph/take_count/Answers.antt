use Rattle.{std.proofs.Common.{refl, sym, ◌∙◌, ap, arith}, gal_text.{specs.claim.Units.count_read, proofs.HoldingLemmas.count_taken}}
use Rattle.gal_text.proofs.units.Graph.take_count.Goals as goal

pub returns : goal.returns
returns c = λ blocks p holds awaits.
    let taken = count_taken blocks c.args.self.now _ p c.args.unit c.in-Some.count c.args.number holds awaits (omega arith) refl refl refl refl c.neighbours_left-self.ensures in
    (taken.0, ap (count_read p c.args.unit c.args.number) (sym c.in-Some.ensures.value) ∙ taken.1, taken.2)
