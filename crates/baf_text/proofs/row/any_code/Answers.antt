use Rattle.{std.proofs.Common.rules, baf_text.proofs.Rows.number_small}
use Rattle.baf_text.proofs.row.any_code.Goals as goal

pub overflow_cast-result : goal.overflow_cast-result
overflow_cast-result c = search (rules, c.number.ensures.value, number_small)
