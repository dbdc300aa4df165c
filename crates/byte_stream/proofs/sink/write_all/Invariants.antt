use Rattle.std.{specs.Io.KnownBytes.Appends, proofs.Common.{length, take, ◌-◌, ◌+◌, ◌≤◌}}
use Rattle.byte_stream.proofs.sink.write_all.Given as goal

abbrev pub invariant-loop-done : goal.invariant-loop-done
invariant-loop-done g l = record {
  within : l.done ≤ length l.bytes;
  written : Appends (g.W.Write.contents l.fn.writer) (g.W.Write.contents l.writer) (take l.done l.bytes);
}

abbrev pub decreases-loop-done : goal.decreases-loop-done
decreases-loop-done g l = (length l.bytes - l.done) + (4294967296 - l.tries)
