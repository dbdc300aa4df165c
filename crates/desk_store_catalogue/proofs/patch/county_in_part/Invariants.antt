use Rattle.{std.proofs.Common.◌≤◌, desk_store_catalogue.proofs.Neighbours.Agree}
use Rattle.desk_store_catalogue.proofs.patch.county_in_part.Given as goal

abbrev pub invariant-loop-place : goal.invariant-loop-place
invariant-loop-place l = Agree l.blocks l.read l.place × (1 ≤ l.place)
