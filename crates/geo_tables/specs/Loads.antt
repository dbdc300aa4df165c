-- Loads that are begun and sealed.
use Rattle.std.specs.{FinMap.{insert, remove}, Prelude.{◌≡◌, ◌⊎◌, ◌<◌, ◌≤◌, ◌+◌, ◌^◌, ℕ, Option, MatchOption}}
use Rattle.{desk_model.specs.claim.Geography.GeographyModel, desk_store_pages.specs.{Reading.{HasNext, ReadErr}, claim.Puts.{HasPut, PutsErr}}}
use Rattle.{desk_store_rows.specs.{claim.{Keys.{key_of, begun}, Rows.KeyMap, Tidy.IsNext}, declared.value.Counters.Counters}, geo_tables.specs.Rows.{begun_rows, seal_row}}
use Rattle.{page_btree.specs.gets.{claim.Map.InTxn, declared.error.TreeError.TreeError}, page_store.specs.declared.{pages.Pages.Pages, txn.Txn.Txn}}
use Rattle.{page_store.specs.claim.Transactions.{stored, disk_in, txn_pages, txn_free, txn_writes, Passed}, sector_device.specs.declared.SectorDevice.Ghosts}

-- the rows after the seal: that row is put, and the one that the load was begun with is gone
abbrev pub sealed_rows : ℕ → GeographyModel → KeyMap → KeyMap
sealed_rows load g m = remove (insert m (seal_row load g).0 (seal_row load g).1) (key_of (begun load))

module _ {D : Type 0} {g : Ghosts D} where
  -- a load with the next number was begun
  pub record HasBegun (load : ℕ) (t u : Txn) (old new : Pages D g) : Type 0 where
    pub next : Counters
    pub load_is : next.load ≡ load
    pub load_fits : load + 1 < 2 ^ 64
    pub others_fit : (next.plan < 2 ^ 64) × (next.chunk < 2 ^ 64)
    pub was : (disk_in new).is_honest → (m : KeyMap) → InTxn t (stored old) m → IsNext m next
    pub put : HasPut (begun_rows next) t u old new

  -- the rows of a load with the next number were not put
  pub record IsNotBegun (t : Txn) (old new : Pages D g) (e : TreeError) : Type 0 where
    pub next : Counters
    pub was : (disk_in new).is_honest → (m : KeyMap) → InTxn t (stored old) m → IsNext m next
    pub why : PutsErr (begun_rows next) t old new e

  -- each number but the last was given to a load
  abbrev pub AreExhausted : Txn → Pages D g → Pages D g → Type 0
  AreExhausted t old new = (disk_in new).is_honest → (m : KeyMap) → InTxn t (stored old) m → (next : Counters) × IsNext m next × (next.load + 1 ≡ 2 ^ 64)

  -- why no load is begun: the tree refused to read or to put
  abbrev pub BeginErr : Txn → Pages D g → Pages D g → TreeError → Type 0
  BeginErr t old new e = ReadErr HasNext t old new e ⊎ IsNotBegun t old new e

  -- the load was sealed
  pub record HasSealed (load : ℕ) (geography : GeographyModel) (t u : Txn) (old new : Pages D g) : Type 0 where
    pub passed : Passed old new
    pub pages : txn_pages u ≡ txn_pages t
    pub sealed : (disk_in new).is_honest → (m : KeyMap) → InTxn t (stored old) m → InTxn u (stored old) (sealed_rows load geography m)
    pub writes : txn_writes u ≤ txn_writes t + 17
    pub taken : txn_free t ≤ txn_free u + 6

  -- one was begun, or none since each number was given
  abbrev pub Begins : Txn → Txn → Pages D g → Pages D g → Option ℕ → Type 0
  Begins t u old new taken = MatchOption taken (AreExhausted t old new) (λ load. HasBegun load t u old new)
