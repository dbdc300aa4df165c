use Rattle.{std.proofs.Common.{◌≡◌, ◌-◌, ◌^◌}, byte_stream.specs.Reading.CountsFrom, pl94_segment.proofs.SegLemmas.Stands}
use Rattle.pl94_segment.proofs.segment.SegmentReader.read.Given as goal

abbrev pub invariant-loop-rows : goal.invariant-loop-rows
invariant-loop-rows g l = record {
  stands : Stands l.part (g.R.Source.remaining l.fn.reader) (g.R.Source.remaining l.reader) l.text.held l.text.number l.rows;
  counted : CountsFrom (g.R.Source.turns l.fn.reader) l.text.turns (g.R.Source.turns l.reader);
  failures : g.R.Source.failures l.reader ≡ g.R.Source.failures l.fn.reader;
}

abbrev pub decreases-loop-rows : goal.decreases-loop-rows
decreases-loop-rows g l = 2 ^ 53 - l.text.number
