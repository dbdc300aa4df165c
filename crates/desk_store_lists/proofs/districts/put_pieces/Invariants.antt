use Rattle.desk_store_lists.proofs.Puts.{IsPut}
use Rattle.desk_store_lists.proofs.districts.put_pieces.Given as goal

abbrev pub invariant-loop-place : goal.invariant-loop-place
invariant-loop-place l = record { put : IsPut l.first l.part l.initial.full.items l.full.items l.place }
