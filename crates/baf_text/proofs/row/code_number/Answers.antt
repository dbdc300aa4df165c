use Rattle.{std.proofs.Common.{sym, ◌∙◌, rules}, baf_text.proofs.{Codes.code_of_three, Rows.id_small}}
use Rattle.baf_text.proofs.row.code_number.Goals as goal

pub overflow_cast-result : goal.overflow_cast-result
overflow_cast-result c = search (rules, c.digits_exactly.ensures.value, id_small)

pub returns-in-Some : goal.returns-in-Some
returns-in-Some c = sym (code_of_three c.args.code.now c.in-Some.value (sym c.digits_exactly.ensures.value ∙ c.in-Some.is))
