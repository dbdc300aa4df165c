-- What a new store is.
use Rattle.std.specs.Prelude.{◌≡◌, ◌≤◌, ◌<◌, ◌+◌, ℕ, Result, OnOk, IfOk, IfErr}
use Rattle.gate_journal.specs.{Recovery.{HasRoom, AllStores}, Store.IsSettled, claim.Store.home, declared.error.PageError.{PageError, TheVariants.{DeviceFault, TooSmall}}}
use Rattle.{gate_journal.specs.declared.layout.Layout.Layout, sector_device.specs.{claim.Disk.{Disk, Touches}, declared.SectorDevice.Ghosts}}

-- the disk is a store of this layout, its gate closed, and each image that a stop may leave is one
pub record IsFormatted (layout : Layout) (disk : Disk) : Type 0 where
  pub settled : IsSettled layout.journal_pages layout.pages disk
  pub all : AllStores disk

-- the header and the gate
abbrev pub Front : ℕ → Type 0
Front i = i < 2

-- why a device is not formatted
abbrev pub FormatErr : {D : Type 0} (g : Ghosts D) → ℕ → D → D → PageError → Type 0
FormatErr g J old new DeviceFault = (home J + 64 ≤ (g.disk old).sectors) × ((g.disk new).is_honest → (g.disk old).faults < (g.disk new).faults)
FormatErr g J old new TooSmall = ((g.disk old).sectors < home J + 64) × (new ≡ old)
FormatErr g J old new _ = ⊥

-- a store has so many journal pages
pub record IsJournalSize (J : ℕ) : Type 0 where
  pub least : 256 ≤ J
  pub most : J ≤ 65536

-- The header and the gate are written, and the answer is what the store has.
pub record FormatsJournal {D : Type 0} (g : Ghosts D) (J : ℕ) (old new : D) (result : Result Layout PageError) : Type 0 where
  pub sectors : (g.disk new).sectors ≡ (g.disk old).sectors
  pub honest : (g.disk new).is_honest → (g.disk old).is_honest
  pub touches : (g.disk new).is_honest → Touches Front (g.disk old) (g.disk new)
  pub formatted : (g.disk new).is_honest → IfOk result (λ layout. IsFormatted layout (g.disk new))
  pub layout : IfOk result (λ layout. (layout.journal_pages ≡ J) × HasRoom (g.disk old).sectors layout.journal_pages layout.pages)
  pub passed : (g.disk new).is_honest → OnOk result ((g.disk new).faults ≡ (g.disk old).faults)
  pub ok : OnOk result (home J + 64 ≤ (g.disk old).sectors)
  pub err : IfErr result (λ e. FormatErr g J old new e)
