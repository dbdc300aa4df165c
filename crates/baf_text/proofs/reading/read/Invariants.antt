use Rattle.{std.{specs.Str.Lines.lines, proofs.Common.{◌+◌, ◌<◌, ◌^◌, length}}, baf_text.proofs.Taken.IsUnderWay}
use Rattle.baf_text.proofs.reading.read.Given as goal

abbrev pub invariant-loop-said : goal.invariant-loop-said
invariant-loop-said l = record { way : IsUnderWay l.geography l.n l.bytes l.number (lines l.rest) l.listed; few : l.number + length l.rest < 2 ^ 63 }

abbrev pub decreases-loop-said : goal.decreases-loop-said
decreases-loop-said l = length l.rest
