use Rattle.{std.specs.Prelude.{Bool, List}, sector_device.specs.{Held.disk_from, claim.Disk.Disk}, sector_memory.specs.declared.memory.MemoryDevice.MemoryDevice}

-- A device in memory is honest.
abbrev pub disk_of : MemoryDevice → Disk
disk_of d = disk_from (Unit {0}) d.sectors.items d.few d.unsynced.items d.past.states

-- for each sector, whether it was written since the last sync
abbrev pub unsynced : MemoryDevice → List Bool
unsynced d = d.unsynced.items
