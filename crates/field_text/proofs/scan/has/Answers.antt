use Rattle.{std.proofs.{Common.{◌≡◌, false, eqb, arith, rules}, lemmas.List.{take_all, Elements.All-more}}, field_text.proofs.ScanLemmas.{first_no, second_no}}
use Rattle.field_text.proofs.scan.has.Goals as goal

pub loop-b-preserved : goal.loop-b-preserved
loop-b-preserved c = λ none.
    All-more (λ b. eqb b c.args.byte ≡ false) c.args.block.now c.loop-b.b-index 0 (omega arith) (c.loop-b.invariant (first_no _ _ none)) (second_no c.loop-b.found _ none)

pub returns : goal.returns
returns c = search (rules, c.loop-b.invariant, take_all)
