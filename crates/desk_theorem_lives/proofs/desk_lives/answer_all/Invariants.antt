use Rattle.{std.proofs.Common.{◌≡◌, false, length}, desk_theorem_lives.specs.DeskInside.Stands}
use Rattle.desk_theorem_runs.specs.desk_store.claim.Clerks.{desk_of, disk_of, is_halted, sectors_of, Keeps}
use Rattle.desk_theorem_lives.proofs.desk_lives.answer_all.Given as goal

abbrev pub invariant-loop-alloc : goal.invariant-loop-alloc
invariant-loop-alloc g l = record {
  sectors : sectors_of l.clerk ≡ sectors_of l.fn.clerk;
  honest : (disk_of l.clerk).is_honest → (disk_of l.fn.clerk).is_honest;
  stands : Keeps l.fn.clerk → is_halted l.fn.clerk ≡ false → (disk_of l.clerk).is_honest
      → Stands (disk_of l.fn.clerk).faults (desk_of l.fn.clerk) (sectors_of l.fn.clerk) l.fn.asked.items l.asked.items l.told.items l.clerk;
}

abbrev pub decreases-loop-alloc : goal.decreases-loop-alloc
decreases-loop-alloc g l = length l.asked.items
