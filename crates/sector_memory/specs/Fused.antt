-- A device in memory that fails at a chosen call.
use Rattle.std.specs.Prelude.{◌≡◌, ◌+◌, ℕ, Bool, Option, Some, None, Result, IsOk, IsErr, cond}
use Rattle.{sector_device.specs.claim.Disk.Disk, sector_memory.specs.{Device.disk_of, declared.{fused.Fused.Fused, memory.MemoryDevice.MemoryDevice}}}

abbrev pub inner : Fused → MemoryDevice
inner f = f.device

abbrev pub fused_disk : Fused → Disk
fused_disk f = disk_of f.device

-- how many calls pass before one fails, and none where no further one does
abbrev pub calls_before : Fused → Option ℕ
calls_before f = f.left

-- whether that one alone fails
abbrev pub is_once : Fused → Bool
is_once f = f.once

-- one call of a device of which one call fails, or each from it on
pub record FailsIn {T E : Type 0} (once : Bool) (old new : Option ℕ) (result : Result T E) : Type 0 where
  pub fails : old ≡ Some 0 → IsErr result × (new ≡ cond once None (Some 0))
  pub passes : (n : ℕ) → old ≡ Some (n + 1) → IsOk result × (new ≡ Some n)
  pub after : old ≡ None → IsOk result × (new ≡ None)
