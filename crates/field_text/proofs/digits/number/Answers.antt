use Rattle.{std.proofs.Common.length, field_text.proofs.DigitLemmas.below_pow}
use Rattle.field_text.proofs.digits.number.Goals as goal

pub returns-then-all_digits-clause-small : goal.returns-then-all_digits-clause-small
returns-then-all_digits-clause-small c = below_pow c.value-n.result (length c.args.bytes.now) c.args.most c.value-n.ensures.small c.if-bytes-most.false
