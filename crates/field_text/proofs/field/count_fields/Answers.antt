use Rattle.std.proofs.{Common.{arith, eqb}, lemmas.List.Splits.length-slice_split}
use Rattle.field_text.proofs.field.count_fields.Goals as goal

pub returns : goal.returns
returns c = omega (arith, c.count_bars.ensures, length-slice_split (λ b. eqb b 124) c.args.line.now)
