use Rattle.{std.proofs.{Common.{◌≡◌, false, eqb, arith, rules}, lemmas.List.{take_all, Elements.All-more}}, field_text.proofs.ScanLemmas.{first_no, second_no}}
use Rattle.http_desk_streams.proofs.rows.has_end.Goals as goal

pub loop-b-preserved : goal.loop-b-preserved
loop-b-preserved c = λ none.
    All-more (λ b. eqb b 10 ≡ false) c.args.bytes.now c.loop-b.b-index 0 (omega arith) (c.loop-b.invariant (first_no _ _ none)) (second_no c.loop-b.ends _ none)

pub returns : goal.returns
returns c = search (rules, c.loop-b.invariant, take_all)
