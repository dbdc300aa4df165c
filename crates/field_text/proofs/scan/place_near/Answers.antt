use Rattle.std.proofs.{Common.{◌≡◌, false, eqb, ne_eqb, arith}, lemmas.List.Elements.All-more}
use Rattle.field_text.proofs.scan.place_near.Goals as goal

pub loop-i-preserved : goal.loop-i-preserved
loop-i-preserved c =
    All-more (λ b. eqb b c.args.byte ≡ false) c.args.text.now c.loop-i.i 0 (omega arith) c.loop-i.invariant (ne_eqb _ c.args.byte c.if-b-byte.false)
