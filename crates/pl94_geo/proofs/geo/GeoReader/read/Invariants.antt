use Rattle.{std.proofs.Common.{◌≡◌, ◌-◌, ◌^◌}, byte_stream.specs.Reading.CountsFrom, pl94_geo.proofs.GeoLemmas.Stands}
use Rattle.pl94_geo.proofs.geo.GeoReader.read.Given as goal

abbrev pub invariant-loop-header : goal.invariant-loop-header
invariant-loop-header g l = record {
  stands : Stands (g.R.Source.remaining l.fn.reader) (g.R.Source.remaining l.reader) l.text.held l.text.number l.header;
  counted : CountsFrom (g.R.Source.turns l.fn.reader) l.text.turns (g.R.Source.turns l.reader);
  failures : g.R.Source.failures l.reader ≡ g.R.Source.failures l.fn.reader;
}

abbrev pub decreases-loop-header : goal.decreases-loop-header
decreases-loop-header g l = 2 ^ 53 - l.text.number
