-- What a format leaves.
use Rattle.std.specs.Prelude.{◌≡◌, ◌≤◌, ◌<◌, ◌+◌, ℕ}
use Rattle.desk_store_pages.specs.{Desks.new_desk, claim.Desks.OpensDesk, declared.error.StoreError.{StoreError, TheVariants.{TooSmall, Memory, DeviceFault}}}
use Rattle.{page_store.specs.gate_journal.claim.Store.{home, IsStore}, sector_device.specs.{claim.Disk.{Disk, Image}, declared.SectorDevice.Ghosts}}

-- each image that a stop may leave opens to the desk without geography and plans
abbrev pub OpensNew : Disk → Type 0
OpensNew disk = (c : Image) → disk.leaves c → OpensDesk disk.sectors new_desk c

-- each image that a stop may leave is one of a store with J journal pages, whose other pages fill the device
abbrev pub HasJournal : ℕ → Disk → Type 0
HasJournal J disk = (c : Image) → disk.leaves c → (n : ℕ) × (home J + n ≡ disk.sectors) × IsStore J n c

-- why a device is not formatted: after the first two it is as it was
abbrev pub FormatErr : {D : Type 0} (g : Ghosts D) → ℕ → D → D → StoreError → Type 0
FormatErr g J old new TooSmall = ((g.disk old).sectors < home J + 64) × (new ≡ old)
FormatErr g J old new Memory = (home J + 64 ≤ (g.disk old).sectors) × (new ≡ old)
FormatErr g J old new DeviceFault = (home J + 64 ≤ (g.disk old).sectors) × ((g.disk new).is_honest → (g.disk old).faults < (g.disk new).faults)
FormatErr g J old new _ = ⊥
