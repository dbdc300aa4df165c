use Rattle.{std.proofs.Common.{sym, ◌∙◌, rules}, baf_text.proofs.Nearby.{hundreds_small, low_worth, near_number}}
use Rattle.baf_text.proofs.near.LastHead.number_of.Goals as goal

pub overflow_add-result : goal.overflow_add-result
overflow_add-result c =
    search (rules, c.self.invariant, c.is_ascii_digit.ensures.value, c.if-is_ascii_digit.true, c.is_ascii_digit-then-is_ascii_digit.ensures.value, c.if-is_ascii_digit-2.true, hundreds_small, low_worth)

pub overflow_add-result-then-is_same : goal.overflow_add-result-then-is_same
overflow_add-result-then-is_same c =
    search (rules, c.self.invariant, c.is_ascii_digit.ensures.value, c.if-is_ascii_digit.true, c.is_ascii_digit-then-is_ascii_digit.ensures.value, c.if-is_ascii_digit-2.true, hundreds_small, low_worth)

pub returns-then-is_same : goal.returns-then-is_same
returns-then-is_same c =
    near_number c.args.text.now c.self.inside.digits c.self.inside.hundreds c.requires c.self.invariant (c.is_same.ensures c.if-is_same.true)
    (sym c.is_ascii_digit.ensures.value ∙ c.if-is_ascii_digit.true) (sym c.is_ascii_digit-then-is_ascii_digit.ensures.value ∙ c.if-is_ascii_digit-2.true)
