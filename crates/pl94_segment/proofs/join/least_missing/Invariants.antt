use Rattle.{std.proofs.Common.{take, map}, pl94_geo.specs.declared.header.GeoBlock.GeoBlock, pl94_segment.specs.Join.IsLeast}
use Rattle.pl94_segment.proofs.join.least_missing.Given as goal

abbrev pub invariant-loop-block : goal.invariant-loop-block
invariant-loop-block l = IsLeast l.first l.second l.third (map (λ (b : GeoBlock). b.number) (take l.block-index l.geo.blocks.items)) l.least
