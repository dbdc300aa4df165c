-- What it is for a plan to let a chunk go, and why it doesn't.
use Rattle.std.specs.Prelude.{◌≡◌, ◌<◌, ◌≤◌, ◌+◌, ◌^◌, ℕ, suc, true, Result}
use Rattle.{desk_store_pages.specs.Outcomes.Writes, desk_store_rows.specs.{Holders.{with_holder_count, released}, claim.{Holders.holder_count_row, Keys.holder_count}}}
use Rattle.{desk_store_rows.specs.claim.Rows.{KeyMap, row_in}, page_btree.specs.gets.{claim.{Errors.IsUnsound, Map.InTxn}, declared.error.TreeError.TreeError}}
use Rattle.{page_btree.specs.gets.declared.error.TreeError.TheVariants.{DeviceFault, NotAStore, Halted, NoPages, TooDeep, Memory}, page_store.specs.declared.pages.Pages.Pages}
use Rattle.page_store.specs.{claim.Transactions.{stored, disk_in, has_halted, txn_pages, txn_free, txn_writes, HasFailed, Passed}, declared.txn.Txn.Txn}
use Rattle.sector_device.specs.{claim.Disk.Image, declared.SectorDevice.Ghosts}

-- the map tells one plan more than so many
abbrev pub TellsMore : ℕ → ℕ → KeyMap → Type 0
TellsMore number count m = row_in m (holder_count number) ≡ holder_count_row (suc count)

-- some plan holds the chunk
pub record HasCount (number : ℕ) (m : KeyMap) : Type 0 where
  pub count : ℕ
  pub fits : count + 1 < 2 ^ 64
  pub told : TellsMore number count m

-- The transaction reads the map in which the plan no longer holds the chunk, and one plan fewer is counted.
pub record IsReleased (plan number : ℕ) (u : Txn) (P : Image) (m : KeyMap) : Type 0 where
  pub before : HasCount number m
  pub holds : InTxn u P (released m plan number before.count)

module _ {D : Type 0} {g : Ghosts D} where
  -- the count is this one then; a put writes 11 pages at most, and takes none over a count of one more
  pub record HasLowered (number count : ℕ) (t u : Txn) (old new : Pages D g) : Type 0 where
    pub passed : Passed old new
    pub pages : txn_pages u ≡ txn_pages t
    pub lowered : (disk_in new).is_honest → (m : KeyMap) → InTxn t (stored old) m → InTxn u (stored old) (with_holder_count m number count)
    pub writes : txn_writes u ≤ txn_writes t + 11
    pub given : (disk_in new).is_honest → (m : KeyMap) → InTxn t (stored old) m → TellsMore number count m → txn_free t ≤ txn_free u

  -- why it isn't: over such a count never for want of pages
  abbrev pub LowerErr : ℕ → ℕ → Txn → Pages D g → Pages D g → TreeError → Type 0
  LowerErr number count t old new DeviceFault = HasFailed old new
  LowerErr number count t old new NotAStore = IsUnsound t old new
  LowerErr number count t old new Halted = has_halted old ≡ true
  LowerErr number count t old new NoPages = (disk_in new).is_honest → (m : KeyMap) → InTxn t (stored old) m → TellsMore number count m → ⊥
  LowerErr number count t old new TooDeep = (disk_in new).is_honest → (m : KeyMap) → InTxn t (stored old) m → TellsMore number count m → ⊥
  LowerErr number count t old new Memory = Unit {0}

  abbrev pub Lowers : ℕ → ℕ → Txn → Txn → Pages D g → Pages D g → Result (Unit {0}) TreeError → Type 0
  Lowers number count t u old new result = Writes (λ _. HasLowered number count t u old new) (LowerErr number count t old new) u old new result

  -- the plan no longer holds the chunk, and no page was taken
  pub record HasReleased (plan number : ℕ) (t u : Txn) (old new : Pages D g) : Type 0 where
    pub passed : Passed old new
    pub pages : txn_pages u ≡ txn_pages t
    pub released : (disk_in new).is_honest → (m : KeyMap) → InTxn t (stored old) m → IsReleased plan number u (stored old) m
    pub writes : txn_writes u ≤ txn_writes t + 17
    pub given : (disk_in new).is_honest → (m : KeyMap) → InTxn t (stored old) m → txn_free t ≤ txn_free u

  -- why it does still: the device failed, or the transaction reads no map that counts a plan that holds the chunk; never for want of pages
  abbrev pub ReleaseErr : ℕ → Txn → Pages D g → Pages D g → TreeError → Type 0
  ReleaseErr number t old new DeviceFault = HasFailed old new
  ReleaseErr number t old new NotAStore = (disk_in new).is_honest → (m : KeyMap) → InTxn t (stored old) m → HasCount number m → ⊥
  ReleaseErr number t old new Halted = has_halted old ≡ true
  ReleaseErr number t old new NoPages = (disk_in new).is_honest → (m : KeyMap) → InTxn t (stored old) m → ⊥
  ReleaseErr number t old new TooDeep = (disk_in new).is_honest → (m : KeyMap) → InTxn t (stored old) m → ⊥
  ReleaseErr number t old new Memory = Unit {0}

  abbrev pub Releases : ℕ → ℕ → Txn → Txn → Pages D g → Pages D g → Result (Unit {0}) TreeError → Type 0
  Releases plan number t u old new result = Writes (λ _. HasReleased plan number t u old new) (ReleaseErr number t old new) u old new result
