use Rattle.{std.proofs.Common.{◌≡◌, ℕ, ◌-◌}, byte_stream.{specs.{Reading.CountsFrom, claim.Reading.turn_limit}, proofs.WordSteps.ReadsPast}}
use Rattle.byte_stream.proofs.reader.LineReader.advance_word.Given as goal

abbrev pub invariant-loop-self : goal.invariant-loop-self
invariant-loop-self g l = record {
  read : ReadsPast (g.R.Source.remaining l.fn.reader) (g.R.Source.remaining l.reader) l.fn.self.held l.self.held;
  number : l.self.number ≡ l.fn.self.number;
  failures : g.R.Source.failures l.reader ≡ g.R.Source.failures l.fn.reader;
  counted : (first : ℕ) → CountsFrom first l.fn.self.turns (g.R.Source.turns l.fn.reader) → CountsFrom first l.self.turns (g.R.Source.turns l.reader);
}

abbrev pub decreases-loop-self : goal.decreases-loop-self
decreases-loop-self g l = turn_limit - l.self.turns
