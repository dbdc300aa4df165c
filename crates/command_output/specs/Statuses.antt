-- Exit statuses.
use Rattle.{std.specs.Prelude.ℕ, command_output.specs.declared.status.Status.{Status, TheVariants.{Done, Broken, Usage, Refused, Store, Memory, Stream}}}

abbrev pub code_of : Status → ℕ
code_of Done = 0
code_of Broken = 1
code_of Usage = 2
code_of Refused = 3
code_of Store = 4
code_of Memory = 5
code_of Stream = 6
