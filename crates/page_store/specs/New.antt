-- What a device is whose pages are new.
use Rattle.std.{specs.Prelude.{◌≡◌, ◌≤◌, ◌<◌, ◌+◌, ℕ, true, List, cond, length}, proofs.Common.nat_lt}
use Rattle.gate_journal.specs.{Store.IsSettled, claim.Store.{home, word, pages}, declared.error.PageError.{PageError, TheVariants.{DeviceFault, TooSmall, Memory}}}
use Rattle.{page_store.specs.{Openings.AllPageStores, claim.Chain.{is_blank, IsIn, IsPages, root_in, free_in}}, sector_device.specs.claim.Disk.{Disk, Image}}
use Rattle.sector_device.specs.declared.SectorDevice.{Ghosts}

-- each page of n is linked to the next one, the last to none
abbrev pub next_of : ℕ → ℕ → ℕ
next_of n q = cond (nat_lt (q + 1) n) (q + 1) 0

-- the pages from one on, up to another, are linked so, and have no other bytes
abbrev pub AreLinked : ℕ → Image → ℕ → ℕ → Type 0
AreLinked n P from to = (q : ℕ) → from ≤ q → q < to → q < n → (word (P q) 0 ≡ next_of n q) × (is_blank (P q) ≡ true)

-- a new store with J journal pages: no root, and each page but page 0 is free
pub record IsNew (J : ℕ) (disk : Disk) : Type 0 where
  pub n : ℕ
  pub whole : home J + n ≡ disk.sectors
  pub settled : IsSettled J n disk
  pub root : root_in (pages J disk.reads) ≡ 0
  pub sound : IsPages n (pages J disk.reads)
  pub free : length (free_in (pages J disk.reads)) + 1 ≡ n
  pub all : AllPageStores disk

-- a new store with J journal pages whose root is page 1, with these bytes: each page but these two is free
pub record IsNewWith (J : ℕ) (bytes : List ℕ) (disk : Disk) : Type 0 where
  pub n : ℕ
  pub whole : home J + n ≡ disk.sectors
  pub settled : IsSettled J n disk
  pub root : root_in (pages J disk.reads) ≡ 1
  pub there : pages J disk.reads 1 ≡ bytes
  pub sound : IsPages n (pages J disk.reads)
  pub used : IsIn 1 (free_in (pages J disk.reads)) → ⊥
  pub free : length (free_in (pages J disk.reads)) + 2 ≡ n
  pub all : AllPageStores disk

-- a store without a meta page, whose pages are all linked from page 1 on
pub record IsLinked (J n : ℕ) (disk : Disk) : Type 0 where
  pub settled : IsSettled J n disk
  pub linked : AreLinked n (pages J disk.reads) 1 n

-- a batch of links: those before it stay
pub record Links (J n from : ℕ) (old new : Disk) : Type 0 where
  pub passed : new.faults ≡ old.faults
  pub settled : IsSettled J n new
  pub linked : AreLinked n (pages J old.reads) 1 from → AreLinked n (pages J new.reads) 1 (from + 256)

-- why a device is not formatted with J journal pages
abbrev pub FormatErr : {D : Type 0} (g : Ghosts D) → ℕ → D → D → PageError → Type 0
FormatErr g J old new DeviceFault = (home J + 64 ≤ (g.disk old).sectors) × ((g.disk new).is_honest → (g.disk old).faults < (g.disk new).faults)
FormatErr g J old new TooSmall = ((g.disk old).sectors < home J + 64) × (new ≡ old)
FormatErr g J old new Memory = (home J + 64 ≤ (g.disk old).sectors) × (new ≡ old)
FormatErr g J old new _ = ⊥
