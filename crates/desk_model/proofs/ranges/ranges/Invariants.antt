use Rattle.{std.proofs.Common.map, desk_model.{specs.claim.{Block.county_of, Geography.ids_of}, proofs.Runs.IsCutTo}}
use Rattle.desk_model.proofs.ranges.ranges.Given as goal

abbrev pub invariant-loop-place : goal.invariant-loop-place
invariant-loop-place l = IsCutTo (map county_of (ids_of l.blocks)) l.all.items l.first l.place
