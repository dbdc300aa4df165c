-- A device in memory of which one call fails.
use Rattle.{std.specs.Prelude.{ℕ, Option}, sector_device.specs.claim.Disk.Disk, sector_memory.specs.{Fused.{inner, fused_disk, calls_before}, declared.fail_once.FailOnce.FailOnce}}
use Rattle.sector_memory.specs.declared.memory.MemoryDevice.{MemoryDevice}

abbrev pub within : FailOnce → MemoryDevice
within f = inner f.device

abbrev pub once_disk : FailOnce → Disk
once_disk f = fused_disk f.device

-- how many calls pass before the one that fails, and none where it has failed
abbrev pub call_left : FailOnce → Option ℕ
call_left f = calls_before f.device
