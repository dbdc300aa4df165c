use Rattle.{std.proofs.Common.{◌≡◌, drop}, file_commands.specs.Quotes.after_line}
use Rattle.file_commands.proofs.quoting.after_line.Given as goal

abbrev pub invariant-loop-i : goal.invariant-loop-i
invariant-loop-i l = after_line (drop l.i l.text) ≡ after_line l.text
