use Rattle.{std.{specs.Char.is_ascii_digit, proofs.Common.{◌≡◌, true, get_or, sym, ◌∙◌}}, command_line.proofs.Numbers.{digits_more, stopped_more}}
use Rattle.command_line.proofs.options.number_up_to.Goals as goal

pub loop-digit-preserved : goal.loop-digit-preserved
loop-digit-preserved c =
    let text = c.args.text.now in
    let i = c.loop-digit.digit-index in
    let is : is_ascii_digit (get_or text i 0) ≡ true = sym c.if-not-is_ascii_digit.ensures.value in
    record {
      digits = digits_more text i c.loop-digit.invariant.digits c.loop-digit-test.true is;
      value = c.min-value.ensures ∙ stopped_more text c.loop-digit.value i c.loop-digit.invariant.value c.loop-digit-test.true is;
    }
