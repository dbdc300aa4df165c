use Rattle.std.{specs.Str.Parse.digits_value, proofs.Common.{◌≡◌, ◌<◌, ◌^◌, take}}
use Rattle.field_text.proofs.digits.value.Given as goal

abbrev pub invariant-loop-b : goal.invariant-loop-b
invariant-loop-b l = record { value : l.n ≡ digits_value 10 (take l.b-index l.bytes); small : l.n < 10 ^ l.b-index }
