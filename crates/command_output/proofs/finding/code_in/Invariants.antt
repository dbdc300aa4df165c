use Rattle.{std.proofs.Common.{◌≡◌, false, drop}, command_output.specs.Codes.code_from}
use Rattle.command_output.proofs.finding.code_in.Given as goal

abbrev pub invariant-loop-i : goal.invariant-loop-i
invariant-loop-i l = code_from l.in_word (drop l.i l.text) ≡ code_from false l.text
