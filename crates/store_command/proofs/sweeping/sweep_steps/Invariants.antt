use Rattle.{std.proofs.Common.{◌≡◌, ◌≤◌, ◌*◌, false}, desk_store_rows.specs.claim.Rows.KeyMap, desk_theorem.specs.runs.desk_store.Sweeps.HasRows}
use Rattle.{desk_theorem.specs.runs.desk_store.claim.Clerks.{disk_of, is_halted}, store_command.specs.Sweeping.{KeepsDesk, HasTaken}}
use Rattle.store_command.proofs.sweeping.sweep_steps.Given as goal

abbrev pub invariant-loop-steps : goal.invariant-loop-steps
invariant-loop-steps g l = record {
  working : is_halted l.clerk ≡ false;
  least : l.steps ≤ l.rows;
  most : l.rows ≤ 16 * l.steps;
  kept : KeepsDesk l.fn.clerk l.clerk;
  taken : (disk_of l.clerk).is_honest → (m : KeyMap) → HasRows l.fn.clerk m → HasTaken l.fn.clerk m l.rows l.clerk;
}
