use Rattle.{std.{specs.Str.Parse.digits_value, proofs.{Common.{◌∙◌, ap}, lemmas.List.take_rest}}, field_text.proofs.DigitLemmas.value_by_fives}
use Rattle.field_text.proofs.digits.value_of_fifteen.Goals as goal

pub returns-clause-value : goal.returns-clause-value
returns-clause-value c =
    value_by_fives c.args.bytes.now c.value-high.result c.value-middle.result c.value-low.result c.requires.long
    c.value-high.ensures.value c.value-middle.ensures.value (c.value-low.ensures.value ∙ ap (digits_value 10) (take_rest c.args.bytes.now 10))
