-- Why a load goes no further.
use Rattle.std.specs.Prelude.{◌≡◌, ◌⊎◌, ◌<◌, ◌≤◌, ◌+◌, ◌*◌, ◌^◌, ℕ, List, [], ◌∷◌, length, Some, None, true, Result, Err, OnOk}
use Rattle.{desk_model.specs.claim.{Desk.Desk, Geography.GeographyModel}, desk_store_pages.specs.{Commits.Commits, claim.{Desks.InPages, Puts.{HasDeepened, IsStoredNear}}}}
use Rattle.desk_store_pages.specs.declared.error.StoreError.{StoreError, TheVariants.{AlreadySealed, Full, Memory, NotAStore, DeviceFault, Halted}}
use Rattle.{desk_store_rows.specs.{claim.{Keys.seal, Puts.Row, Rows.{KeyMap, Lacks}, Tidy.IsNext}, declared.value.Counters.Counters}, geo_tables.specs.declared.load.Load.Load}
use Rattle.{geo_tables.specs.{Loading.{HoldsLoad, number_of, geography_model_of, done_of}, Rows.{begun_rows, staged_rows, seal_row}}, page_store.specs.claim.Chain.free_in}
use Rattle.{page_btree.specs.gets.claim.Map.InPages as HoldsRows, page_store.specs.claim.Transactions.{stored, disk_in, journal_of, has_halted, HasFailed, IsQuiet, IsSame, Passed}}
use Rattle.{page_store.specs.declared.{pages.Pages.Pages, txn.Txn.Txn}, sector_device.specs.declared.SectorDevice.Ghosts}

-- the rows with which the next load begins
abbrev pub AreBegun : KeyMap → List Row → Type 0
AreBegun m rows = (next : Counters) × IsNext m next × (rows ≡ begun_rows next)

module _ {D : Type 0} {g : Ghosts D} where
  -- 13 free pages and 13 journal pages for each row that is written
  pub record HasRoom (rows : ℕ) (old new : Pages D g) : Type 0 where
    pub journal : 13 * rows ≤ journal_of old
    pub free : (disk_in new).is_honest → 13 * rows ≤ length (free_in (stored old))

  -- What a commit of so many rows comes to: there was room for each, or it is told why none was made. Pages that had halted stay.
  pub record CommitsRows {T : Type 0} (rows : ℕ) (failed : StoreError → Type 0) (old new : Pages D g) (result : Result T StoreError) : Type 0 where
    pub commits : Commits failed old new result
    pub room : OnOk result (HasRoom rows old new)
    pub still : has_halted old ≡ true → (result ≡ Err Halted) × IsSame old new

  -- or fewer of one of them
  abbrev pub IsShort : ℕ → Pages D g → Pages D g → Type 0
  IsShort rows old new = (journal_of old < 13 * rows) ⊎ ((disk_in new).is_honest → length (free_in (stored old)) < 13 * rows)

  -- each number but the last was given to a load
  abbrev pub IsExhausted : Pages D g → Pages D g → Type 0
  IsExhausted old new = (disk_in new).is_honest → (m : KeyMap) → HoldsRows old m → (next : Counters) × IsNext m next × (next.load + 1 ≡ 2 ^ 64)

  -- the tree had six levels after some of the rows, and the stored tree was near enough to that for so many
  abbrev pub IsDeep : (KeyMap → List Row → Type 0) → Pages D g → Pages D g → Type 0
  IsDeep are old new = (disk_in new).is_honest → (m : KeyMap) → HoldsRows old m
      → (rows : List Row) × are m rows × ((t : Txn) × HasDeepened rows t old m) × IsStoredNear (length rows) old

  -- no geography is sealed
  abbrev pub IsUnsealed : Pages D g → Pages D g → Type 0
  IsUnsealed old new = (disk_in new).is_honest → (d : Desk) → InPages old d → d.geography ≡ None

  -- nothing was written, and the pages hold no desk
  abbrev pub IsNoDesk : Pages D g → Pages D g → Type 0
  IsNoDesk old new = IsQuiet old new × ((disk_in new).is_honest → (d : Desk) → InPages old d → ⊥)

  -- nothing was written, and they hold none beside what is staged of the load
  abbrev pub HasNoLoad : Load → Pages D g → Pages D g → Type 0
  HasNoLoad load old new = IsQuiet old new × ((disk_in new).is_honest → (d : Desk) → HoldsLoad old d load → ⊥)

  -- why the next load is not begun, where no geography is sealed
  abbrev pub NextErr : Pages D g → Pages D g → StoreError → Type 0
  NextErr old new Full = IsQuiet old new × (IsShort 2 old new ⊎ (IsExhausted old new ⊎ IsDeep AreBegun old new))
  NextErr old new Memory = IsQuiet old new × HasRoom 2 old new
  NextErr old new NotAStore = IsNoDesk old new
  NextErr old new DeviceFault = HasFailed old new
  NextErr old new Halted = (has_halted old ≡ true) × IsSame old new
  NextErr old new _ = ⊥

  -- the pages hold no seal
  abbrev pub LackSeal : Pages D g → Type 0
  LackSeal ps = (disk_in ps).is_honest → (m : KeyMap) → HoldsRows ps m → Lacks m seal

  -- they were only read, and have none
  pub record FindsNoSeal (old new : Pages D g) : Type 0 where
    pub passed : Passed old new
    pub lack : LackSeal new

  -- why it isn't seen that no geography is sealed
  abbrev pub SealedErr : Pages D g → Pages D g → StoreError → Type 0
  SealedErr old new AlreadySealed = Passed old new
      × ((disk_in new).is_honest → (d : Desk) → InPages old d → (sealed : GeographyModel) × (d.geography ≡ Some sealed))
  SealedErr old new NotAStore = IsNoDesk old new
  SealedErr old new DeviceFault = HasFailed old new
  SealedErr old new Halted = (has_halted old ≡ true) × IsSame old new
  SealedErr old new _ = ⊥

  -- why no load is begun
  abbrev pub BeginErr : GeographyModel → Pages D g → Pages D g → StoreError → Type 0
  BeginErr area old new Full = IsQuiet old new × IsUnsealed old new
      × (IsShort 2 old new ⊎ (IsExhausted old new ⊎ (IsDeep AreBegun old new ⊎ (2 ^ 32 ≤ length area.pairs))))
  BeginErr area old new Memory = IsQuiet old new × IsUnsealed old new × HasRoom 2 old new
  BeginErr area old new e = SealedErr old new e

  -- why rows of a load are not put, where there is to be room for so many
  abbrev pub RowsErr : Load → ℕ → List Row → Pages D g → Pages D g → StoreError → Type 0
  RowsErr load rows all old new Full = IsQuiet old new × (IsShort rows old new ⊎ IsDeep (λ m them. them ≡ all) old new)
  RowsErr load rows all old new Memory = IsQuiet old new × HasRoom rows old new
  RowsErr load rows all old new NotAStore = HasNoLoad load old new
  RowsErr load rows all old new DeviceFault = HasRoom rows old new × HasFailed old new
  RowsErr load rows all old new Halted = (has_halted old ≡ true) × IsSame old new
  RowsErr load rows all old new _ = ⊥

  -- why so many rows of a load are not staged
  abbrev pub BatchErr : Load → ℕ → Pages D g → Pages D g → StoreError → Type 0
  BatchErr load rows old new e = RowsErr load (rows + 1) (staged_rows (number_of load) (geography_model_of load) (done_of load) rows) old new e

  -- why a load is not sealed
  abbrev pub SealErr : Load → Pages D g → Pages D g → StoreError → Type 0
  SealErr load old new e = RowsErr load 2 (seal_row (number_of load) (geography_model_of load) ∷ []) old new e
