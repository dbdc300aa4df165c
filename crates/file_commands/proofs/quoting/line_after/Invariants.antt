use Rattle.{std.proofs.Common.{◌≡◌, ◌-◌}, file_commands.specs.Quotes.after_lines}
use Rattle.file_commands.proofs.quoting.line_after.Given as goal

abbrev pub invariant-loop : goal.invariant-loop
invariant-loop l = after_lines (l.ends - l.counter) l.rest ≡ after_lines l.ends l.text
