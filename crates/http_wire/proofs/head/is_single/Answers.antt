use Rattle.{std.proofs.Common.{◌∙◌, ◌==◌, ℕ, ap, sym, arith}, http_wire.proofs.FieldLemmas.{single_one, single_more}}
use Rattle.http_wire.proofs.head.is_single.Goals as goal

pub returns-then-lines-ne1 : goal.returns-then-lines-ne1
returns-then-lines-ne1 c = λ all same first. single_more all c.args.first.now (λ one. omega (arith, c.if-lines-ne1.true, same, one)) first

pub returns : goal.returns
returns c = λ all same first. c.is_one.ensures ∙ ap (λ (n : ℕ). n == 1) (sym (single_one all c.args.first.now (omega (arith, c.if-lines-ne1.false, same)) first))
