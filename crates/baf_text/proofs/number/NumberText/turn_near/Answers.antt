use Rattle.{std.proofs.Common.rules, baf_text.proofs.Ends.number_turned}
use Rattle.baf_text.proofs.number.NumberText.turn_near.Goals as goal

pub invariant_of-self : goal.invariant_of-self
invariant_of-self c = search (rules, c.number-self-inside.ensures, c.requires, c.self.invariant, c.digit.ensures, c.digit-2.ensures, number_turned)
