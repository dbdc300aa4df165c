use Rattle.{std.proofs.Common.{sym, subst}, sector_device.specs.{Disk.IsSynced, claim.Disk.{Disk, Image}}, sector_memory.specs.{Device.disk_of, Fused.fused_disk}}
use Rattle.sector_memory.specs.declared.memory.MemoryDevice.{MemoryDevice}
use Rattle.clerk_trials.proofs.stops.plugged.PluggedRestarts.stop.Goals as goal

-- what a device leaves that was stopped
left_of : (old : Disk) (m : MemoryDevice) → IsSynced (disk_of m) → old.leaves (disk_of m).reads → (c : Image) → (disk_of m).leaves c → old.leaves c
left_of old m synced left c stopped = let agree = synced c stopped in subst old.leaves (λ i k. (sym (agree.same k (λ none. none))) i) left

pub returns-clause-left : goal.returns-clause-left
returns-clause-left c = let stop = c.stop.ensures in λ honest. left_of (fused_disk c.args.self.device) c.stop.result stop.synced stop.left
