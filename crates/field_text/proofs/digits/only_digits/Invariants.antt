use Rattle.std.{specs.{Char.is_ascii_digit, List.list_all}, proofs.Common.{◌≡◌, true, take, All}}
use Rattle.field_text.proofs.digits.only_digits.Given as goal

abbrev pub invariant-loop-b : goal.invariant-loop-b
invariant-loop-b l = record {
  test : l.only ≡ list_all is_ascii_digit (take l.b-index l.bytes);
  each : l.only ≡ true → All (λ b. is_ascii_digit b ≡ true) (take l.b-index l.bytes);
}
