-- What an image of a store with pages is.
use Rattle.std.specs.Prelude.{◌≡◌, ◌+◌, ℕ, true}
use Rattle.gate_journal.specs.{claim.{Contents.{content, page_count, is_halted, HasHalted}, Store.{home, IsStore, pages}}, declared.error.PageError.PageError}
use Rattle.{gate_journal.specs.declared.{error.PageError.TheVariants.{NotAStore, DeviceFault, Halted}, journal.Journal.Journal}, page_store.specs.claim.Chain.IsPages}
use Rattle.sector_device.specs.{claim.Disk.{Disk, Image}, declared.SectorDevice.Ghosts}

-- the image is one of a store with so many sectors, and its pages hold a root and free pages
pub record IsPageStoreOf (sectors : ℕ) (c : Image) : Type 0 where
  pub J : ℕ
  pub n : ℕ
  pub whole : home J + n ≡ sectors
  pub store : IsStore J n c
  pub pages : IsPages n (pages J c)

-- each image that a stop may leave is one
abbrev pub AllPageStores : Disk → Type 0
AllPageStores disk = (c : Image) → disk.leaves c → IsPageStoreOf disk.sectors c

-- why the meta page is not read
abbrev pub MetaErr : {D : Type 0} {g : Ghosts D} → Journal D g → Journal D g → PageError → Type 0
MetaErr old new DeviceFault = HasHalted old new
MetaErr old new Halted = is_halted old ≡ true
MetaErr {g = g} old new NotAStore = (g.disk new.device).is_honest → (IsPages (page_count old) (content old) → ⊥) × ((g.disk new.device).faults ≡ (g.disk old.device).faults)
MetaErr old new _ = ⊥
