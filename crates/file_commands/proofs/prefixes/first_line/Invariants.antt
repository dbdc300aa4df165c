use Rattle.{std.proofs.Common.{◌≡◌, ◌++◌, take, drop}, file_commands.specs.Prefixes.line_prefix}
use Rattle.file_commands.proofs.prefixes.first_line.Given as goal

abbrev pub invariant-loop-i : goal.invariant-loop-i
invariant-loop-i l = take l.i l.prefix ++ line_prefix (drop l.i l.prefix) ≡ line_prefix l.prefix
