use Rattle.{std.proofs.Common.{◌≡◌, ◌≤◌, ◌*◌, false}, desk_model.specs.claim.Desk.Desk, desk_store_rows.specs.claim.Rows.KeyMap, store_command.specs.Migrating.HasPut}
use Rattle.desk_theorem.specs.runs.desk_migration.claim.Migrating.{disk_of, is_halted, HasRows, Moves}
use Rattle.store_command.proofs.migrating.put_all.Given as goal

abbrev pub invariant-loop-steps : goal.invariant-loop-steps
invariant-loop-steps g l = record {
  working : is_halted l.migration ≡ false;
  least : l.steps ≤ l.rows;
  most : l.rows ≤ 16 * l.steps;
  moves : Moves l.fn.migration l.migration;
  put : (disk_of l.migration).is_honest → (d : Desk) (m : KeyMap) → HasRows l.fn.migration d m → HasPut l.fn.migration d m l.rows l.migration;
}
