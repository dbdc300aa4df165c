use Rattle.{std.proofs.Common.{◌≡◌, ◌-◌, ◌^◌, ℕ}, byte_stream.specs.Reading.CountsFrom, gal_text.specs.Parts.Stands}
use Rattle.gal_text.proofs.gal.read_words.Given as goal

abbrev pub invariant-loop-graph : goal.invariant-loop-graph
invariant-loop-graph g l = record {
  stands : Stands l.blocks l.fn.graph.left l.fn.text.held (g.R.Source.remaining l.fn.reader) (g.R.Source.remaining l.reader) l.text.held l.text.number l.graph;
  counted : (first : ℕ) → CountsFrom first l.fn.text.turns (g.R.Source.turns l.fn.reader) → CountsFrom first l.text.turns (g.R.Source.turns l.reader);
  failures : g.R.Source.failures l.reader ≡ g.R.Source.failures l.fn.reader;
}

abbrev pub decreases-loop-graph : goal.decreases-loop-graph
decreases-loop-graph g l = 2 ^ 53 - l.text.number
