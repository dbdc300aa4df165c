-- Rows that are put one after the other in a transaction.
use Rattle.std.specs.Prelude.{◌≡◌, ◌<◌, ◌≤◌, ◌+◌, ◌*◌, ℕ, List, ◌++◌, length, true}
use Rattle.{desk_store_rows.specs.claim.{Puts.{Row, put_rows}, Rows.KeyMap}, page_btree.specs.gets.claim.{Errors.{IsUnsound, level_in, reach_in, top_reach}, Map.InTxn}}
use Rattle.page_btree.specs.gets.declared.error.TreeError.{TreeError, TheVariants.{DeviceFault, NotAStore, Halted, NoPages, TooDeep, Memory}}
use Rattle.page_store.specs.claim.{Chain.root_in, Transactions.{stored, disk_in, has_halted, txn_pages, txn_root, txn_free, txn_writes, over, HasFailed, Passed}}
use Rattle.{page_store.specs.declared.{pages.Pages.Pages, txn.Txn.Txn}, sector_device.specs.declared.SectorDevice.Ghosts}

module _ {D : Type 0} {g : Ghosts D} where
  -- so many rows could bring a transaction's tree to the end of its sixth level: a row is one step of 301, and 50 of these are a level
  abbrev pub IsNear : ℕ → Txn → Pages D g → Type 0
  IsNear rows t old = top_reach ≤ reach_in (over t (stored old)) (txn_root t) + rows

  -- and so of the stored tree
  abbrev pub IsStoredNear : ℕ → Pages D g → Type 0
  IsStoredNear rows ps = top_reach ≤ reach_in (stored ps) (root_in (stored ps)) + rows

  -- a transaction's tree is nearer to it than another's by so many at most
  abbrev pub Nears : ℕ → Txn → Txn → Pages D g → Type 0
  Nears rows t u old = reach_in (over u (stored old)) (txn_root u) ≤ reach_in (over t (stored old)) (txn_root t) + rows

  -- the rows were put: a row writes 11 pages at most, and takes 6
  pub record HasPut (rows : List Row) (t u : Txn) (old new : Pages D g) : Type 0 where
    pub passed : Passed old new
    pub pages : txn_pages u ≡ txn_pages t
    pub put : (disk_in new).is_honest → (m : KeyMap) → InTxn t (stored old) m → InTxn u (stored old) (put_rows m rows)
    pub writes : txn_writes u ≤ txn_writes t + 11 * length rows
    pub taken : txn_free t ≤ txn_free u + 6 * length rows
    -- a row brings the tree one nearer to a seventh level at most
    pub nearer : (disk_in new).is_honest → (m : KeyMap) → InTxn t (stored old) m → Nears (length rows) t u old

  -- the tree had six levels after some of the rows
  pub record HasDeepened (rows : List Row) (t : Txn) (old : Pages D g) (m : KeyMap) : Type 0 where
    pub prefix : List Row
    pub rest : List Row
    pub are : prefix ++ rest ≡ rows
    pub txn : Txn
    pub holds : InTxn txn (stored old) (put_rows m prefix)
    pub deep : level_in (over txn (stored old)) (txn_root txn) ≡ 5

  -- why they are not all put
  abbrev pub PutsErr : List Row → Txn → Pages D g → Pages D g → TreeError → Type 0
  PutsErr rows t old new DeviceFault = HasFailed old new
  PutsErr rows t old new NotAStore = IsUnsound t old new
  PutsErr rows t old new Halted = has_halted old ≡ true
  PutsErr rows t old new NoPages = txn_free t < 6 * length rows
  PutsErr rows t old new TooDeep = (disk_in new).is_honest → (m : KeyMap) → InTxn t (stored old) m → HasDeepened rows t old m × IsNear (length rows) t old
  PutsErr rows t old new Memory = Unit {0}
