-- What is told of a text that isn't read.
use Rattle.std.specs.Prelude.{◌≡◌, Result, Err}
use Rattle.{baf_text.specs.declared.reading.BafFault.{BafFault, TheVariants.{Body, Memory}}, desk_model.specs.claim.Baf.{Values, Fault}}

-- a fault of the text is the first one; want of memory says nothing of the text
abbrev pub IsFaultOf : Result Values Fault → BafFault → Type 0
IsFaultOf reading (Body code line) = reading ≡ Err (code, line)
IsFaultOf reading Memory = Unit {0}
