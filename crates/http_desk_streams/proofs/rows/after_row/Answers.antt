use Rattle.{std.proofs.{Common.{sym, ◌∙◌, arith}, lemmas.List.take_rest}, http_desk_streams.proofs.Prefixes.row_in_prefix}
use Rattle.http_desk_streams.proofs.rows.after_row.Goals as goal

pub returns : goal.returns
returns c =
    row_in_prefix c.args.text.now c.in-Some._code.now c.in-Some.rest.now (omega arith) (c.has_end.ensures c.if-has_end.false)
    (sym (take_rest c.args.text.now 16) ∙ c.in-Some.ensures.0) c.in-Some.ensures.1
