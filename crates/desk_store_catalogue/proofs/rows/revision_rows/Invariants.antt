use Rattle.{std.proofs.Common.{◌≡◌, ◌+◌, ◌*◌, ◌≤◌, ◌^◌, drop, length}, desk_model.specs.claim.Room.rows_for, desk_store_catalogue.proofs.Cutting.changed_rows}
use Rattle.desk_store_catalogue.proofs.rows.revision_rows.Given as goal

abbrev pub invariant-loop-place : goal.invariant-loop-place
invariant-loop-place l = record {
  rows : l.rows + changed_rows (drop l.place l.changes) (drop l.place l.ranges) ≡ 2 + rows_for 128 (length l.ranges) + changed_rows l.changes l.ranges;
  few : l.rows ≤ 2 + 2 ^ 32 + l.place * 2 ^ 24;
}
