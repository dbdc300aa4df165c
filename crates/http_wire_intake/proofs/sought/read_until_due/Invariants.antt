use Rattle.{std.{specs.{Io.KnownBytes.Consumes, Prelude.All}, proofs.Common.{◌≡◌, ◌<◌, List, ℕ, ◌++◌, Ok, length}}, http_wire_intake.specs.Draws.Draws}
use Rattle.http_wire_intake.proofs.sought.read_until_due.Given as goal

abbrev pub invariant-loop-fault : goal.invariant-loop-fault
invariant-loop-fault g l = record {
  short : length l.intake.read_buffer.now < 16384;
  came : (more : List ℕ) × Consumes (g.R.Source.remaining l.fn.intake.reader.now) (g.R.Source.remaining l.intake.reader.now) more × (l.intake.read_buffer.now ≡ l.fn.intake.read_buffer.now ++ more) × All g.S.PrefixParser.waits more;
  draws : Draws {A = ℕ} g.R.Source.turns g.R.Source.failures l.fn.intake l.intake (Ok 0);
}

abbrev pub decreases-loop-fault : goal.decreases-loop-fault
decreases-loop-fault g l = l.intake.turns.now
