use Rattle.pl94_geo.proofs.SetLemmas.{stays, added}
use Rattle.pl94_geo.proofs.number_set.NumberSet.insert.Goals as goal

pub returns-then-self-bit-eq1 : goal.returns-then-self-bit-eq1
returns-then-self-bit-eq1 c = stays c.args.self.now c.turn_to.new.self c.args.number c.in_ok-turn_to.ensures c.if-self-bit-eq1.true

pub returns : goal.returns
returns c = added c.args.self.now c.turn_to.new.self c.args.number c.in_ok-turn_to.ensures c.if-self-bit-eq1.false
