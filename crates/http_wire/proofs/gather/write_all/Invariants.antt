use Rattle.std.{specs.Io.KnownBytes.Appends, proofs.Common.{length, take, ◌++◌, ◌-◌, ◌+◌, ◌≤◌}}
use Rattle.http_wire.proofs.gather.write_all.Given as goal

abbrev pub invariant-loop-done : goal.invariant-loop-done
invariant-loop-done g l = record {
  within : l.done ≤ length l.first + length l.second;
  written : Appends (g.W.Write.contents l.fn.writer) (g.W.Write.contents l.writer) (take l.done (l.first ++ l.second));
}

abbrev pub decreases-loop-done : goal.decreases-loop-done
decreases-loop-done g l = (length l.first + length l.second - l.done) + (4294967296 - l.tries)
