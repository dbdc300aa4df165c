use Rattle.{std.proofs.Common.{arith, get_or, rules}, field_text.proofs.DigitLemmas.{fits_more, small_more, value_more}}
use Rattle.field_text.proofs.digits.value.Goals as goal

pub overflow_mul-n : goal.overflow_mul-n
overflow_mul-n c = omega (arith, fits_more c.loop-b.n c.loop-b.b-index (get_or c.args.bytes.now c.loop-b.b-index 0) c.loop-b.invariant.small (omega (arith, c.requires.few)) (c.requires.each c.loop-b.b-index 0 c.loop-b-test.true))

pub overflow_add-n : goal.overflow_add-n
overflow_add-n c = fits_more c.loop-b.n c.loop-b.b-index _ c.loop-b.invariant.small (omega (arith, c.requires.few)) (c.requires.each c.loop-b.b-index 0 c.loop-b-test.true)

pub loop-b-preserved : goal.loop-b-preserved
loop-b-preserved c = search (rules, c.requires.each, c.loop-b.invariant.value, c.loop-b.invariant.small, value_more, small_more)
