use Rattle.{std.proofs.Common.{◌≡◌, take}, desk_store_lists.{specs.{Laid.laid, Pieces.{joined, AreFull}}, proofs.Laying.Fit}}
use Rattle.desk_store_lists.proofs.districts.Districts.with_listed.Given as goal

abbrev pub invariant-loop-place : goal.invariant-loop-place
invariant-loop-place l = record {
  are_full : AreFull l.full.items;
  same : joined l.full.items ≡ laid l.first l.listed 0 (joined (take l.place l.pieces));
  fit : Fit (joined l.full.items);
}
