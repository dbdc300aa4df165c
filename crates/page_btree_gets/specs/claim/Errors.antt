-- Why a call on a tree is refused.
use Rattle.std.{specs.Prelude.{◌≡◌, ◌<◌, ◌+◌, ◌*◌, ℕ, zero, suc, min, true}, proofs.Common.get_or}
use Rattle.page_btree_gets.specs.{claim.{Keys.KeyMap, Map.InTxn}, declared.error.TreeError.{TreeError, TheVariants.{DeviceFault, NotAStore, Halted, NoPages, TooDeep, Memory}}}
use Rattle.{page_btree_node.specs.claim.Node.count_in, page_store.specs.claim.Transactions.{stored, disk_in, has_halted, HasFailed, txn_free, txn_root, over}}
use Rattle.{page_store.specs.declared.{pages.Pages.Pages, txn.Txn.Txn}, sector_device.specs.{claim.Disk.Image, declared.SectorDevice.Ghosts}}

-- the level of the node at the root
abbrev pub level_in : Image → ℕ → ℕ
level_in P root = get_or (P root) 0 0

-- How near a tree is to a seventh level, counted in rows, by the level of its root and the number of entries there: 50 for a level, and the
-- entries, of which 51 count. A node above the leaves overflows with 52 entries at least, as one has 79 bytes at most, and a new root has two.
-- A leaf has the most that its level may have.
abbrev pub reach_at : ℕ → ℕ → ℕ
reach_at zero count = 51
reach_at (suc d) count = 50 * suc d + min 51 count

-- of a tree at a root, or of none
abbrev pub reach_in : Image → ℕ → ℕ
reach_in P zero = 50
reach_in P (suc p) = reach_at (level_in P (suc p)) (count_in (P (suc p)))

-- a root of level 5 that overflows has it, and none has more
abbrev pub top_reach : ℕ
top_reach = 301

module _ {D : Type 0} {g : Ghosts D} where
  -- the pages hold what no store has
  abbrev pub IsUnsound : Txn → Pages D g → Pages D g → Type 0
  IsUnsound t old new = (disk_in new).is_honest → (m : KeyMap) → InTxn t (stored old) m → ⊥

  -- why a value isn't read
  abbrev pub GetErr : Txn → Pages D g → Pages D g → TreeError → Type 0
  GetErr t old new DeviceFault = HasFailed old new
  GetErr t old new NotAStore = IsUnsound t old new
  GetErr t old new Halted = has_halted old ≡ true
  GetErr t old new _ = ⊥

  -- why a row isn't put: where fewer than six pages are free, or the tree has six levels
  abbrev pub PutErr : Txn → Pages D g → Pages D g → TreeError → Type 0
  PutErr t old new DeviceFault = HasFailed old new
  PutErr t old new NotAStore = IsUnsound t old new
  PutErr t old new Halted = has_halted old ≡ true
  PutErr t old new NoPages = txn_free t < 6
  PutErr t old new TooDeep = (disk_in new).is_honest → level_in (over t (stored old)) (txn_root t) ≡ 5
  PutErr t old new Memory = Unit {0}

  -- why a row isn't removed
  abbrev pub RemoveErr : Txn → Pages D g → Pages D g → TreeError → Type 0
  RemoveErr t old new DeviceFault = HasFailed old new
  RemoveErr t old new NotAStore = IsUnsound t old new
  RemoveErr t old new Halted = has_halted old ≡ true
  RemoveErr t old new Memory = Unit {0}
  RemoveErr t old new _ = ⊥
