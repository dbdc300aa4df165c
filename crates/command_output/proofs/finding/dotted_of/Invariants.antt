use Rattle.{std.proofs.Common.{◌≡◌, ◌++◌, take, drop}, command_output.specs.Codes.dotted_word}
use Rattle.command_output.proofs.finding.dotted_of.Given as goal

abbrev pub invariant-loop-i : goal.invariant-loop-i
invariant-loop-i l = take l.i l.text ++ dotted_word (drop l.i l.text) ≡ dotted_word l.text
