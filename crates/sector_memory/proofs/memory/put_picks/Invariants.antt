use Rattle.{std.proofs.Common.{ℕ, ◌≡◌, take}, sector_device.specs.Held.image_of, sector_memory.specs.Memory.after_stop}
use Rattle.sector_memory.proofs.memory.put_picks.Given as goal

abbrev pub invariant-loop-pick : goal.invariant-loop-pick
invariant-loop-pick l = (i : ℕ) → image_of l.sectors i ≡ after_stop (take l.pick-index l.picks) l.unsynced (image_of l.initial.sectors) i
