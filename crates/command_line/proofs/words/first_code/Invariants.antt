use Rattle.{std.proofs.Common.{◌≡◌, drop, map}, command_line.specs.Jobs.first_code}
use Rattle.command_line.proofs.words.first_code.Given as goal

abbrev pub invariant-loop-word : goal.invariant-loop-word
invariant-loop-word l = first_code (map (λ w. w.now) (drop l.word-index l.words)) ≡ first_code (map (λ w. w.now) l.words)
