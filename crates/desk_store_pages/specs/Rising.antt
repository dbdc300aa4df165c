-- Rows that are put with two leaves that are known.
use Rattle.std.specs.Prelude.{◌≡◌, ◌<◌, ◌≤◌, ◌+◌, ◌*◌, List, length, true, Result, MatchResult}
use Rattle.{desk_store_pages.specs.claim.Puts.{HasDeepened, IsNear, Nears}, desk_store_rows.specs.claim.{Puts.{Row, put_rows}, Rows.KeyMap}, page_btree.specs.gets.claim.Map.InTxn}
use Rattle.page_btree.specs.{gets.declared.error.TreeError.{TreeError, TheVariants.{DeviceFault, NotAStore, Halted, NoPages, TooDeep, Memory}}, puts.Fingers.Stand}
use Rattle.{page_btree.specs.puts.declared.finger.Fingers.Fingers, page_store.specs.declared.{pages.Pages.Pages, txn.Txn.Txn}, sector_device.specs.declared.SectorDevice.Ghosts}
use Rattle.page_store.specs.claim.Transactions.{stored, disk_in, has_halted, txn_pages, txn_free, txn_writes, HasFailed, Passed}

module _ {D : Type 0} {g : Ghosts D} where
  -- where both fingers stood, the rows were put, and both stand then: a row writes 11 pages at most, and takes 6
  pub record HasPutWith (were fs : Fingers) (rows : List Row) (t u : Txn) (old new : Pages D g) : Type 0 where
    pub passed : Passed old new
    pub pages : txn_pages u ≡ txn_pages t
    pub put : (disk_in new).is_honest → (m : KeyMap) → InTxn t (stored old) m → Stand t (stored old) were
        → InTxn u (stored old) (put_rows m rows) × Stand u (stored old) fs
    pub writes : txn_writes u ≤ txn_writes t + 11 * length rows
    pub taken : txn_free t ≤ txn_free u + 6 * length rows
    pub nearer : (disk_in new).is_honest → (m : KeyMap) → InTxn t (stored old) m → Stand t (stored old) were → Nears (length rows) t u old

  -- why they are not all put
  abbrev pub PutsErrWith : Fingers → List Row → Txn → Pages D g → Pages D g → TreeError → Type 0
  PutsErrWith were rows t old new DeviceFault = HasFailed old new
  PutsErrWith were rows t old new NotAStore = (disk_in new).is_honest → (m : KeyMap) → InTxn t (stored old) m → Stand t (stored old) were → ⊥
  PutsErrWith were rows t old new Halted = has_halted old ≡ true
  PutsErrWith were rows t old new NoPages = txn_free t < 6 * length rows
  PutsErrWith were rows t old new TooDeep = (disk_in new).is_honest → (m : KeyMap)
      → InTxn t (stored old) m → Stand t (stored old) were → HasDeepened rows t old m × IsNear (length rows) t old
  PutsErrWith were rows t old new Memory = Unit {0}

  -- the rows were put, or it is told why not
  abbrev pub PutsRowsWith : {T : Type 0} → Fingers → Fingers → List Row → Txn → Txn → Pages D g → Pages D g → Result T TreeError → Type 0
  PutsRowsWith were fs rows t u old new result =
      MatchResult result (λ _. HasPutWith were fs rows t u old new) (λ e. PutsErrWith were rows t old new e)
