use Rattle.{std.{specs.Io.KnownBytes.Consumes, proofs.Common.{◌≡◌, ◌≤◌, ◌+◌, ◌*◌, List, ℕ, ◌++◌, Ok, take, vec_len}}, http_wire_intake.specs.Draws.Draws}
use Rattle.http_wire_intake.proofs.body.read_more.Given as goal

abbrev pub invariant-loop-filled : goal.invariant-loop-filled
invariant-loop-filled g l = record {
  ordered : l.filled ≤ vec_len l.body;
  within : vec_len l.body ≤ l.n;
  grows : vec_len l.body ≤ 2 * l.filled + 65536;
  came : (more : List ℕ) × Consumes (g.R.Source.remaining l.fn.intake.reader.now) (g.R.Source.remaining l.intake.reader.now) more × (take l.filled l.body.items ≡ l.fn.body.items ++ more);
  read_buffer : l.intake.read_buffer.now ≡ l.fn.intake.read_buffer.now;
  draws : Draws {A = ℕ} g.R.Source.turns g.R.Source.failures l.fn.intake l.intake (Ok 0);
}

abbrev pub decreases-loop-filled : goal.decreases-loop-filled
decreases-loop-filled g l = l.intake.turns.now
