use Rattle.{std.proofs.{Common.{append_assoc, rules}, KnownBytes.Consumes-trans}, byte_stream.proofs.ReadingLemmas.counts_more}
use Rattle.byte_stream.proofs.reader.LineReader.advance.Goals as goal

pub loop-self-preserved-else-n-eq0 : goal.loop-self-preserved-else-n-eq0
loop-self-preserved-else-n-eq0 g c =
    search (rules, c.loop-self.invariant.read, c.in-Read.ensures.bytes, c.if-take_line.ensures.line.1, c.in-Read.ensures.number, c.loop-self.invariant.number, c.in-Read.ensures.failures, c.loop-self.invariant.failures, c.fill.ensures.turns, c.take_line.ensures.turns, c.loop-self.invariant.counted, c.fill.ensures.counted, Consumes-trans, append_assoc, counts_more)
