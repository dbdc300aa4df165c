-- Whether pages hold rows at all.
use Rattle.std.specs.Prelude.{◌≡◌, ◌⊎◌, ℕ, true}
use Rattle.{desk_store_rows.specs.claim.{Keys.version, Rows.{KeyMap, Lacks}}, page_btree.specs.{checks.Owners.after, gets.{claim.Map.Holds, declared.error.TreeError.TreeError}}}
use Rattle.{page_btree.specs.gets.declared.error.TreeError.TheVariants.{DeviceFault, NotAStore, Halted, Memory}, page_store.specs.claim.Chain.{chain, root_in, free_in, AreFree}}
use Rattle.page_store.specs.{claim.Transactions.{stored, disk_in, count_of, has_halted, txn_pages, over, HasFailed}, declared.{pages.Pages.Pages, txn.Txn.Txn}}
use Rattle.{page_store.specs.gate_journal.claim.Store.word, sector_device.specs.{claim.Disk.Image, declared.SectorDevice.Ghosts}}

-- n pages hold some rows
abbrev pub IsHeld : ℕ → Image → Type 0
IsHeld n P = (m : KeyMap) × Holds n P (root_in P) (free_in P) m

-- the list of free pages goes on after as many as the header says, which it does in no store that was written here
abbrev pub GoesOn : Image → Type 0
GoesOn P = after P (word (P 0) 1) (word (P 0) 2) ≡ 0 → ⊥

-- n pages hold rows, or their list of free pages goes on; and none of the rows tells a version
pub record AreOld (n : ℕ) (P : Image) : Type 0 where
  pub there : IsHeld n P ⊎ GoesOn P
  pub none : (m : KeyMap) → Holds n P (root_in P) (free_in P) m → Lacks m version

module _ {D : Type 0} {g : Ghosts D} where
  -- why a list of so many pages isn't followed: the device failed, or not all of them are free
  abbrev pub FollowErr : Txn → ℕ → ℕ → Pages D g → Pages D g → TreeError → Type 0
  FollowErr t first count old new DeviceFault = HasFailed old new
  FollowErr t first count old new NotAStore = (disk_in new).is_honest → AreFree (txn_pages t) (chain (over t (stored old)) first count) → ⊥
  FollowErr t first count old new Halted = has_halted old ≡ true
  FollowErr t first count old new _ = ⊥

  -- why rows aren't found: the pages hold none, the device failed, or a growth was refused
  abbrev pub HeldErr : Pages D g → Pages D g → TreeError → Type 0
  HeldErr old new DeviceFault = HasFailed old new
  HeldErr old new NotAStore = (disk_in new).is_honest → IsHeld (count_of old) (stored old) → ⊥
  HeldErr old new Halted = has_halted old ≡ true
  HeldErr old new Memory = Unit {0}
  HeldErr old new _ = ⊥
