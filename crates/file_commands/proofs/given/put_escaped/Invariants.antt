use Rattle.{std.proofs.Common.{◌≡◌, ◌++◌, drop}, file_commands.specs.Quotes.all_escaped}
use Rattle.file_commands.proofs.given.put_escaped.Given as goal

abbrev pub invariant-loop-byte : goal.invariant-loop-byte
invariant-loop-byte l = l.text.items ++ all_escaped (drop l.byte-index l.bytes) ≡ l.fn.text.items ++ all_escaped l.bytes
