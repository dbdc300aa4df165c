use Rattle.{std.proofs.Common.{◌≡◌, ◌+◌, ◌*◌, ◌≤◌, ◌<◌, ℕ, min}, http_wire.specs.intake.Budget.{reading_left, Spends}, http_desk_streams.proofs.TalkLemmas.Stands}
use Rattle.http_desk_streams.proofs.serve.serve.Given as goal

abbrev pub invariant-loop-requests : goal.invariant-loop-requests
invariant-loop-requests g l = record {
  few : l.requests + reading_left l.stream.turns l.stream.read_buffer ≤ 65536 * 4294967296;
  read_failures : g.R.Source.failures l.reader ≡ g.R.Source.failures l.fn.reader;
  write_failures : g.W.Sink.failures l.writer ≡ g.W.Sink.failures l.fn.writer;
  turns : Spends 4294967296 l.stream.turns (g.R.Source.turns l.fn.reader) (g.R.Source.turns l.reader);
  stands : Stands g.C.Counter.commands g.C.Counter.asks l.fn.counter (g.R.Source.remaining l.fn.reader) (g.R.Source.remaining l.reader) (g.W.Sink.contents l.fn.writer) (g.W.Sink.contents l.writer) l.counter l.stream.read_buffer l.stream.write_buffer l.requests;
  passed : (k : ℕ) → k < l.requests → g.G.CommandObserver.passes l.gate 0 (min k 4294967295);
}

abbrev pub decreases-loop-requests : goal.decreases-loop-requests
decreases-loop-requests g l = reading_left l.stream.turns l.stream.read_buffer
