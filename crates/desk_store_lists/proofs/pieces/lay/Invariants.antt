use Rattle.desk_store_lists.proofs.Laying.{IsLaid}
use Rattle.desk_store_lists.proofs.pieces.lay.Given as goal

abbrev pub invariant-loop-k : goal.invariant-loop-k
invariant-loop-k l = IsLaid l.first l.listed l.start l.initial.districts l.districts l.k
