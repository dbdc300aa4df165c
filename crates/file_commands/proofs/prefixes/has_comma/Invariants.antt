use Rattle.{std.proofs.Common.{◌≡◌, drop}, file_commands.specs.Prefixes.has_comma}
use Rattle.file_commands.proofs.prefixes.has_comma.Given as goal

abbrev pub invariant-loop-byte : goal.invariant-loop-byte
invariant-loop-byte l = has_comma (drop l.byte-index l.prefix) ≡ has_comma l.prefix
