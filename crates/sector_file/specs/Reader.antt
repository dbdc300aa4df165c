-- A device beside another one, for reads alone.
use Rattle.std.specs.Prelude.{◌≡◌}
use Rattle.sector_device.specs.{Disk.IsSynced, claim.Disk.Disk}

-- A new reader of what the disk holds. A stop leaves what it reads.
pub record IsReader (disk reader : Disk) : Type 0 where
  pub sectors : reader.sectors ≡ disk.sectors
  pub reads : reader.reads ≡ disk.reads
  pub synced : IsSynced reader
  pub honest : reader.is_honest
  pub calm : reader.faults ≡ 0
