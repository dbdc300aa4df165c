-- A map that changes in a transaction by rows that depend on what is there.
use Rattle.std.specs.Prelude.{◌≡◌, ◌<◌, ◌≤◌, ◌+◌, ◌*◌, ℕ, List, length, true, Result}
use Rattle.{desk_store_pages.specs.{Outcomes.Writes, claim.Puts.{HasDeepened, IsNear, Nears}}, desk_store_rows.specs.claim.{Puts.{Row, put_rows}, Rows.KeyMap}}
use Rattle.page_btree.specs.gets.{claim.Map.InTxn, declared.error.TreeError.{TreeError, TheVariants.{DeviceFault, NotAStore, Halted, NoPages, TooDeep, Memory}}}
use Rattle.page_store.specs.{claim.Transactions.{stored, disk_in, has_halted, txn_pages, txn_free, txn_writes, HasFailed, Passed}, declared.{pages.Pages.Pages, txn.Txn.Txn}}
use Rattle.sector_device.specs.declared.SectorDevice.{Ghosts}

-- so many rows at most make of each map what follows
abbrev pub IsByRows : (KeyMap → KeyMap) → ℕ → Type 0
IsByRows then rows = (m : KeyMap) → (put : List Row) × (length put ≤ rows) × (then m ≡ put_rows m put)

module _ {D : Type 0} {g : Ghosts D} where
  -- the map is the one that follows: so many rows at most were put, each of which writes 11 pages and takes 6
  pub record HasChanged (then : KeyMap → KeyMap) (rows : ℕ) (t u : Txn) (old new : Pages D g) : Type 0 where
    pub passed : Passed old new
    pub pages : txn_pages u ≡ txn_pages t
    pub changed : (disk_in new).is_honest → (m : KeyMap) → InTxn t (stored old) m → InTxn u (stored old) (then m)
    pub writes : txn_writes u ≤ txn_writes t + 11 * rows
    pub taken : txn_free t ≤ txn_free u + 6 * rows
    pub nearer : (disk_in new).is_honest → (m : KeyMap) → InTxn t (stored old) m → Nears rows t u old

  -- the tree had six levels after some of so many rows at most
  pub record IsDeepAfter (rows : ℕ) (t : Txn) (old : Pages D g) (m : KeyMap) : Type 0 where
    pub put : List Row
    pub few : length put ≤ rows
    pub deep : HasDeepened put t old m
    pub near : IsNear rows t old

  -- why it is not: the device failed, or the transaction reads no map that can change so; too few pages were free; the tree was too deep
  abbrev pub MapErr : (KeyMap → Type 0) → ℕ → Txn → Pages D g → Pages D g → TreeError → Type 0
  MapErr can rows t old new DeviceFault = HasFailed old new
  MapErr can rows t old new NotAStore = (disk_in new).is_honest → (m : KeyMap) → InTxn t (stored old) m → can m → ⊥
  MapErr can rows t old new Halted = has_halted old ≡ true
  MapErr can rows t old new NoPages = txn_free t < 6 * rows
  MapErr can rows t old new TooDeep = (disk_in new).is_honest → (m : KeyMap) → InTxn t (stored old) m → IsDeepAfter rows t old m
  MapErr can rows t old new Memory = Unit {0}

  -- the map was changed, or it is told why not
  abbrev pub ChangesMap : {T : Type 0} → (KeyMap → Type 0) → (KeyMap → KeyMap) → ℕ → Txn → Txn → Pages D g → Pages D g → Result T TreeError → Type 0
  ChangesMap can then rows t u old new result = Writes (λ _. HasChanged then rows t u old new) (MapErr can rows t old new) u old new result
