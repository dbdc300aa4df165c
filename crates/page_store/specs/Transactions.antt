-- What no promise rests on, beside claim/Transactions.antt.
use Rattle.std.specs.Prelude.{◌<◌, ◌⊎◌, ℕ, List}
use Rattle.gate_journal.specs.{Recovery.Found, Store.Writes, claim.{Store.{Opens, pages}, Writes.writes_of}, declared.error.PageError.PageError}
use Rattle.{gate_journal.specs.declared.error.PageError.TheVariants.{NotAStore, DeviceFault, Memory}, page_store.specs.{Openings.AllPageStores, claim.Transactions.free_over}}
use Rattle.{page_store.specs.{claim.Chain.{AreFree, IsIn, IsPages}, declared.txn.Txn.Txn}, sector_device.specs.claim.Disk.{Disk, Image, Touches, Nowhere}}
use Rattle.sector_device.specs.declared.SectorDevice.{Ghosts}

-- the pages that it writes, each once, with their bytes; how many they are, and whether one is of them
abbrev pub txn_list : Txn → List (ℕ × List ℕ)
txn_list t = writes_of t.writes

abbrev pub IsWritten : Txn → ℕ → Type 0
IsWritten t p = Writes (writes_of t.writes) p

-- the first of its free pages, where there is one
abbrev pub txn_first : Txn → ℕ
txn_first t = t.first

-- why a page is not given back
abbrev pub GiveErr : Txn → ℕ → PageError → Type 0
GiveErr t p NotAStore = (P : Image) → 0 < p → AreFree t.pages (free_over t P) → (IsIn p (free_over t P) → ⊥) → ⊥
GiveErr t p Memory = Unit {0}
GiveErr t p _ = ⊥

-- the journal was opened, and its pages, which are as they were whatever a stop leaves, are no store's
pub record HasBadPages (old new : Disk) : Type 0 where
  pub J : ℕ
  pub n : ℕ
  pub found : Found J n old new
  pub stands : (c : Image) → new.leaves c → Opens J n (pages J new.reads) c
  pub unsound : IsPages n (pages J new.reads) → ⊥

-- what no store holds stays as it is
abbrev pub IsUntouched : Disk → Disk → Type 0
IsUntouched old new = Touches Nowhere old new ⊎ HasBadPages old new

-- why pages are not opened
abbrev pub OpenErr : {D : Type 0} (g : Ghosts D) → D → D → PageError → Type 0
OpenErr g old new DeviceFault = (g.disk new).is_honest → (g.disk old).faults < (g.disk new).faults
OpenErr g old new NotAStore = (g.disk new).is_honest → AllPageStores (g.disk old) → ⊥
-- the pages of a store that was there, as they were
OpenErr g old new Memory = (g.disk new).is_honest → (J : ℕ) × ((n : ℕ) × Found J n (g.disk old) (g.disk new))
OpenErr g old new _ = ⊥
