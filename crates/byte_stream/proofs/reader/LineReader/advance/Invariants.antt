use Rattle.{std.{specs.Io.KnownBytes.Consumes, proofs.Common.{◌≡◌, ℕ, ◌-◌, List, ◌++◌}}, byte_stream.specs.{Reading.CountsFrom, claim.Reading.turn_limit}}
use Rattle.byte_stream.proofs.reader.LineReader.advance.Given as goal

abbrev pub invariant-loop-self : goal.invariant-loop-self
invariant-loop-self g l = record {
  read : (more : List ℕ) × Consumes (g.R.Source.remaining l.fn.reader) (g.R.Source.remaining l.reader) more × (l.self.held ≡ l.fn.self.held ++ more);
  number : l.self.number ≡ l.fn.self.number;
  failures : g.R.Source.failures l.reader ≡ g.R.Source.failures l.fn.reader;
  counted : (first : ℕ) → CountsFrom first l.fn.self.turns (g.R.Source.turns l.fn.reader) → CountsFrom first l.self.turns (g.R.Source.turns l.reader);
}

abbrev pub decreases-loop-self : goal.decreases-loop-self
decreases-loop-self g l = turn_limit - l.self.turns
