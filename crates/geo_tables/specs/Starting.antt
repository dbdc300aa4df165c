-- A transaction that is begun where there is room for its rows, and that is committed.
use Rattle.std.specs.Prelude.{◌≡◌, ◌⊎◌, ◌<◌, ◌≤◌, ◌*◌, ℕ, length, true, false}
use Rattle.{desk_store_pages.specs.declared.error.StoreError.{StoreError, TheVariants.{Full, Halted}}, desk_store_rows.specs.claim.Rows.KeyMap}
use Rattle.{page_btree.specs.gets.claim.Map.{InTxn, InPages}, page_store.specs.{claim.Chain.{free_in, root_in}, declared.{pages.Pages.Pages, txn.Txn.Txn}}}
use Rattle.page_store.specs.claim.Transactions.{stored, disk_in, count_of, journal_of, has_halted, txn_pages, txn_root, txn_free, txn_writes, over}
use Rattle.sector_device.specs.declared.SectorDevice.{Ghosts}

module _ {D : Type 0} {g : Ghosts D} where
  -- It reads what the pages hold and has written nothing. They have 13 free pages and 13 journal pages for each row.
  pub record IsStarted (rows : ℕ) (ps : Pages D g) (t : Txn) : Type 0 where
    pub pages : txn_pages t ≡ count_of ps
    pub working : has_halted ps ≡ false
    pub none : txn_writes t ≡ 0
    pub journal : 13 * rows ≤ journal_of ps
    pub free : 13 * rows ≤ txn_free t
    pub count : (disk_in ps).is_honest → txn_free t ≡ length (free_in (stored ps))
    pub same : (disk_in ps).is_honest → over t (stored ps) ≡ stored ps
    pub root : (disk_in ps).is_honest → txn_root t ≡ root_in (stored ps)
    pub reads : (disk_in ps).is_honest → (m : KeyMap) → InPages ps m → InTxn t (stored ps) m

  -- why none is begun
  abbrev pub StartErr : ℕ → Pages D g → StoreError → Type 0
  StartErr rows ps Halted = has_halted ps ≡ true
  StartErr rows ps Full = (has_halted ps ≡ false) × ((journal_of ps < 13 * rows)
      ⊎ ((disk_in ps).is_honest → length (free_in (stored ps)) < 13 * rows))
  StartErr rows ps _ = ⊥
