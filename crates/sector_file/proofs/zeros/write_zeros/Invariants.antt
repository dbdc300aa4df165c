use Rattle.std.{specs.Io.KnownBytes.Appends, proofs.Common.{◌*◌, replicate}}
use Rattle.sector_file.proofs.zeros.write_zeros.Given as goal

abbrev pub invariant-loop : goal.invariant-loop
invariant-loop g l = Appends (g.W.Write.contents l.fn.writer) (g.W.Write.contents l.writer) (replicate (4096 * l.counter) 0)
