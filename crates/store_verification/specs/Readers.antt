-- Readers of a device.
use Rattle.std.specs.Prelude.{◌≡◌, ◌+◌, ℕ}
use Rattle.sector_device.specs.{Disk.IsSynced, claim.Disk.{Disk, Image, Nowhere, Touches}}

-- A reader of a device reads what it does, and has read nothing yet. The device holds what is known beforehand by its number of sectors.
pub record IsLent (held : ℕ → Image) (disk reader : Disk) : Type 0 where
  pub sectors : reader.sectors ≡ disk.sectors
  pub reads : reader.reads ≡ disk.reads
  pub synced : IsSynced reader
  pub honest : reader.is_honest
  pub calm : reader.faults ≡ 0
  pub held_is : disk.reads ≡ held disk.sectors

-- Its device took it back: nothing was written, the device has failed as often as both, and what it keeps to the reader kept to.
pub record IsTakenBack (held : ℕ → Image) (old reader new : Disk) : Type 0 where
  pub sectors : new.sectors ≡ old.sectors
  pub synced : IsSynced old → IsSynced new
  pub moves : new.is_honest → Touches Nowhere old new
  pub honest : new.is_honest → old.reads ≡ held old.sectors → reader.sectors ≡ old.sectors → reader.is_honest
  pub faults : new.is_honest → new.faults ≡ old.faults + reader.faults

-- it took three back
pub record AreTakenBack (held : ℕ → Image) (old first second third new : Disk) : Type 0 where
  pub sectors : new.sectors ≡ old.sectors
  pub synced : IsSynced old → IsSynced new
  pub moves : new.is_honest → Touches Nowhere old new
  pub first_honest : new.is_honest → old.reads ≡ held old.sectors → first.sectors ≡ old.sectors → first.is_honest
  pub second_honest : new.is_honest → old.reads ≡ held old.sectors → second.sectors ≡ old.sectors → second.is_honest
  pub third_honest : new.is_honest → old.reads ≡ held old.sectors → third.sectors ≡ old.sectors → third.is_honest
  pub faults : new.is_honest → new.faults ≡ old.faults + first.faults + second.faults + third.faults
