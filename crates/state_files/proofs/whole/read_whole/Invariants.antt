use Rattle.{std.{specs.Io.KnownBytes.Consumes, proofs.Common.{◌≡◌, ◌+◌, ◌-◌, ◌≤◌, vec_len}}, byte_stream.specs.{Reading.CountsFrom, claim.Reading.turn_limit}}
use Rattle.state_files.specs.claim.Whole.{plan_limit}
use Rattle.state_files.proofs.whole.read_whole.Given as goal

abbrev pub invariant-loop-text : goal.invariant-loop-text
invariant-loop-text g l = record {
  read : Consumes (g.R.Source.remaining l.fn.reader) (g.R.Source.remaining l.reader) l.text.items;
  most : vec_len l.text ≤ plan_limit + 1;
  few : l.turns ≤ turn_limit;
  failures : g.R.Source.failures l.reader ≡ g.R.Source.failures l.fn.reader;
  counted : CountsFrom (g.R.Source.turns l.fn.reader) l.turns (g.R.Source.turns l.reader);
}

abbrev pub decreases-loop-text : goal.decreases-loop-text
decreases-loop-text g l = turn_limit - l.turns
