use Rattle.{std.proofs.Common.{◌≡◌, ◌++◌, drop, map}, file_commands.specs.Prefixes.shown}
use Rattle.file_commands.proofs.prefixes.put_shown.Given as goal

abbrev pub invariant-loop-byte : goal.invariant-loop-byte
invariant-loop-byte l = l.text.items ++ map shown (drop l.byte-index l.prefix) ≡ l.fn.text.items ++ map shown l.prefix
