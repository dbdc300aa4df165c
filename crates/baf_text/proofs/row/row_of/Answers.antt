use Rattle.{std.proofs.{Common.{ap, sym, ◌∙◌, rules}, lemmas.List.take_rest}, desk_model.specs.claim.Baf.code_value, baf_text.proofs.Prefix.{head_row, row_head}}
use Rattle.baf_text.proofs.Rows.{no_row, fields_from_row}
use Rattle.baf_text.proofs.row.row_of.Goals as goal

pub returns-in_default : goal.returns-in_default
returns-in_default c = no_row c.args.line.now (λ e row. c.in_default.ensures e.0 (row_head c.args.line.now e row))

pub returns-in-Some-code_number : goal.returns-in-Some-code_number
returns-in-Some-code_number c =
    sym (fields_from_row c.args.line.now (c.in-Some.block, c.in-Some-code_number.number)
    (head_row c.args.line.now c.in-Some.block c.in-Some-code_number.number c.in-Some.ensures
    (ap code_value (sym (take_rest c.args.line.now 16)) ∙ sym c.code_number.ensures ∙ c.in-Some-code_number.is)))

pub returns-in-None : goal.returns-in-None
returns-in-None c = search (rules, no_row c.args.line.now (λ e row. cc (row.code, ap code_value (take_rest c.args.line.now 16), c.in-None.is, c.code_number.ensures)))
