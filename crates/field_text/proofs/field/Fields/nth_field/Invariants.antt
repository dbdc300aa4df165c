use Rattle.std.proofs.Common.{◌≡◌, drop}
use Rattle.field_text.proofs.field.Fields.nth_field.Given as goal

abbrev pub invariant-loop : goal.invariant-loop
invariant-loop l = l.self ≡ drop l.counter l.fn.self
