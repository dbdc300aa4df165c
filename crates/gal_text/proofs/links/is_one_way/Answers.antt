use Rattle.{std.proofs.Common.arith, gal_text.proofs.LinkLemmas.answered}
use Rattle.gal_text.proofs.links.is_one_way.Goals as goal

pub returns-then-number : goal.returns-then-number
returns-then-number c = λ links cut there. answered links c.args.link.now _ (
  λ yes. ((cut.down_are (c.args.link.now.from, c.args.link.now.to)).0 (c.has_pair.ensures.0 yes)).listed,
  λ listed. c.has_pair.ensures.1
      ((cut.down_are (c.args.link.now.from, c.args.link.now.to)).1 (record { rising = omega (arith, c.if-number.true, c.number.ensures, c.number-2.ensures); listed = listed })),
)
    there

pub returns-then-number-2 : goal.returns-then-number-2
returns-then-number-2 c = λ links cut there. answered links c.args.link.now _ (
  λ yes. ((cut.up_are (c.args.link.now.to, c.args.link.now.from)).0 (c.has_pair-then-number-2.ensures.0 yes)).listed,
  λ listed. c.has_pair-then-number-2.ensures.1
      ((cut.up_are (c.args.link.now.to, c.args.link.now.from)).1 (record { rising = omega (arith, c.if-number-2.true, c.number-3.ensures, c.number-4.ensures); listed = listed })),
)
    there
