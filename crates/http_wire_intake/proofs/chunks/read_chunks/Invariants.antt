use Rattle.{std.proofs.Common.{◌≤◌, ℕ, Ok, vec_len}, http_wire_intake.{specs.Draws.{Draws, left_of}, proofs.ChunkReadLemmas.Stands}}
use Rattle.http_wire_intake.proofs.chunks.read_chunks.Given as goal

abbrev pub invariant-loop-chunked : goal.invariant-loop-chunked
invariant-loop-chunked g l = record {
  stands : Stands (g.R.Source.remaining l.fn.intake.reader.now) (g.R.Source.remaining l.intake.reader.now) l.fn.intake.read_buffer.now l.intake.read_buffer.now l.body.items;
  within : vec_len l.body ≤ 33554432;
  draws : Draws {A = ℕ} g.R.Source.turns g.R.Source.failures l.fn.intake l.intake (Ok 0);
}

abbrev pub decreases-loop-chunked : goal.decreases-loop-chunked
decreases-loop-chunked g l = left_of l.intake
