use Rattle.{std.proofs.Common.{◌≡◌, ◌++◌, take, drop}, command_output.specs.Lines.word_to}
use Rattle.command_output.proofs.finding.before.Given as goal

abbrev pub invariant-loop-i : goal.invariant-loop-i
invariant-loop-i l = take l.i l.text ++ word_to l.first l.second (drop l.i l.text) ≡ word_to l.first l.second l.text
