use Rattle.{std.proofs.Common.{◌≡◌, ℕ, Ok}, http_wire_intake.specs.Draws.{Draws, Reads}}
use Rattle.http_wire_intake.proofs.sought.read_prefix.Given as goal

abbrev pub invariant-loop-part : goal.invariant-loop-part
invariant-loop-part g l = record {
  came : Reads g.R.Source.remaining l.fn.intake l.intake (λ input rest. rest ≡ input);
  draws : Draws {A = ℕ} g.R.Source.turns g.R.Source.failures l.fn.intake l.intake (Ok 0);
}

abbrev pub decreases-loop-part : goal.decreases-loop-part
decreases-loop-part g l = l.intake.turns.now
