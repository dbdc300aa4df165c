-- A journal as the layers above see it.
use Rattle.std.specs.Prelude.{◌≡◌, ◌≤◌, ◌<◌, ℕ, Bool, true, false, Result, Ok, Err}
use Rattle.gate_journal.specs.{claim.Store.{pages, Opens}, declared.{error.PageError.{PageError, TheVariants.{DeviceFault, Halted, TooManyPages}}, journal.Journal.Journal}}
use Rattle.sector_device.specs.{claim.Disk.{Disk, Image}, declared.SectorDevice.Ghosts}

module _ {D : Type 0} {g : Ghosts D} where
  -- the device, and the disk in it
  abbrev pub device_of : Journal D g → D
  device_of j = j.device

  abbrev pub disk_of : Journal D g → Disk
  disk_of j = g.disk j.device

  -- the pages
  abbrev pub content : Journal D g → Image
  content j = pages j.layout.journal_pages (g.disk j.device).reads

  abbrev pub page_count : Journal D g → ℕ
  page_count j = j.layout.pages

  abbrev pub journal_size : Journal D g → ℕ
  journal_size j = j.layout.journal_pages

  -- the device failed since the opening
  abbrev pub is_halted : Journal D g → Bool
  is_halted j = j.halted

  -- each image that a stop now may leave stands for the pages
  abbrev pub IsKept : Journal D g → Type 0
  IsKept j = (c : Image) → (g.disk j.device).leaves c
      → Opens j.layout.journal_pages j.layout.pages (pages j.layout.journal_pages (g.disk j.device).reads) c

  -- the sizes stay
  pub record HasShapeOf (old new : Journal D g) : Type 0 where
    pub journal_pages : new.layout.journal_pages ≡ old.layout.journal_pages
    pub pages : new.layout.pages ≡ old.layout.pages

  -- a fault, and from then on only refusals
  pub record HasHalted (old new : Journal D g) : Type 0 where
    pub worked : old.halted ≡ false
    pub halted : new.halted ≡ true
    pub rose : (g.disk new.device).is_honest → (g.disk old.device).faults < (g.disk new.device).faults

  -- why a page is not read
  abbrev pub ReadErr : Journal D g → Journal D g → PageError → Type 0
  ReadErr old new DeviceFault = HasHalted old new
  ReadErr old new Halted = (old.halted ≡ true) × (new ≡ old)
  ReadErr old new _ = ⊥

  -- why so many pages are not committed
  abbrev pub CommitErr : ℕ → Journal D g → Journal D g → PageError → Type 0
  CommitErr n old new DeviceFault = HasHalted old new × (n ≤ old.layout.journal_pages)
  CommitErr n old new Halted = (old.halted ≡ true) × (new ≡ old)
  CommitErr n old new TooManyPages = (old.halted ≡ false) × (old.layout.journal_pages < n) × (new ≡ old)
  CommitErr n old new _ = ⊥

  -- the device after an opening, in the journal or handed back
  abbrev pub device_after : Result (Journal D g) (PageError × D) → D
  device_after (Ok j) = j.device
  device_after (Err e) = e.1
