use Rattle.{std.proofs.Common.{◌≡◌, drop}, command_output.specs.Codes.code_at}
use Rattle.command_output.proofs.finding.code_at.Given as goal

abbrev pub invariant-loop-place : goal.invariant-loop-place
invariant-loop-place l = code_at l.word (drop l.place-index l.places) ≡ code_at l.word l.places
