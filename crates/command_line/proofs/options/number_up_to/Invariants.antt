use Rattle.std.{specs.{Char.is_ascii_digit, List.list_all, Str.Parse.digits_value}, proofs.Common.{◌≡◌, true, take, min}}
use Rattle.command_line.proofs.options.number_up_to.Given as goal

abbrev pub invariant-loop-digit : goal.invariant-loop-digit
invariant-loop-digit l = record {
  digits : list_all is_ascii_digit (take l.digit-index l.text) ≡ true;
  value : l.value ≡ min (digits_value 10 (take l.digit-index l.text)) 4294967296;
}
