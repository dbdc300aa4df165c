use Rattle.{std.proofs.Common.{◌≡◌, ◌≤◌}, http_wire.specs.intake.Budget.{reading_left, Spends}, http_desk_streams.proofs.NextLemmas.Turned}
use Rattle.http_desk_streams.proofs.serve.next_request.Given as goal

abbrev pub invariant-loop-stream : goal.invariant-loop-stream
invariant-loop-stream g l = record {
  turned : Turned (g.R.Source.remaining l.fn.reader) (g.R.Source.remaining l.reader) (g.W.Sink.contents l.fn.writer) (g.W.Sink.contents l.writer) l.fn.stream.read_buffer l.fn.stream.write_buffer l.stream.read_buffer l.stream.write_buffer;
  failures : g.R.Source.failures l.reader ≡ g.R.Source.failures l.fn.reader;
  write_failures : g.W.Sink.failures l.writer ≡ g.W.Sink.failures l.fn.writer;
  spends : Spends l.fn.stream.turns l.stream.turns (g.R.Source.turns l.fn.reader) (g.R.Source.turns l.reader);
  left : reading_left l.stream.turns l.stream.read_buffer ≤ reading_left l.fn.stream.turns l.fn.stream.read_buffer;
}

abbrev pub decreases-loop-stream : goal.decreases-loop-stream
decreases-loop-stream g l = l.stream.turns
