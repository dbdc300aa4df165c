-- Chunks that plans come to hold within a transaction, and in pages.
use Rattle.std.specs.Prelude.{◌≡◌, ◌⊎◌, ◌≤◌, ◌<◌, ◌+◌, ◌*◌, ℕ, Bool, true, false, List, [], ◌∷◌, length, Result, Err, OnOk}
use Rattle.{desk_migration.specs.{Parts.IsUnderWay, claim.Holding.{AllAreHeld, AreHeldTo, AreUnheld, IsHeldBy, hold_pairs}}, desk_model.specs.claim.Desk.Desk}
use Rattle.desk_store_pages.specs.{claim.{Desks.IsOldMap, Puts.{HasDeepened, IsNear, IsStoredNear, Nears}}, declared.error.StoreError.StoreError}
use Rattle.{desk_store_pages.specs.declared.error.StoreError.TheVariants.{Full, Memory, NotAStore, DeviceFault, Halted}, desk_store_rows.specs.claim.Holders.holding_rows}
use Rattle.{desk_store_rows.specs.claim.{Keys.{key_of, version, in_four}, Puts.Row, Rows.KeyMap}, page_btree.specs.{gets.claim.Map.{InTxn, InPages}, puts.Fingers.Stand}}
use Rattle.{page_btree.specs.{gets.declared.error.TreeError.TreeError, puts.declared.finger.Fingers.Fingers}, page_store.specs.{claim.Chain.free_in, declared.pages.Pages.Pages}}
use Rattle.page_store.specs.claim.Transactions.{stored, disk_in, has_halted, txn_pages, txn_free, txn_writes, HasFailed, HasShape, IsKept, IsQuiet, IsSame, Passed}
use Rattle.{page_store.specs.declared.txn.Txn.Txn, sector_device.specs.{claim.Disk.Image, declared.SectorDevice.Ghosts}}
use Rattle.page_btree.specs.gets.declared.error.TreeError.TheVariants as tree

-- the row that tells the new version
abbrev pub version_rows : List Row
version_rows = (key_of version, in_four 2) ∷ []

-- this is known of a map, and both fingers stand
abbrev pub AndStand : (KeyMap → Type 0) → Fingers → Txn → Image → KeyMap → Type 0
AndStand known fs t P m = known m × Stand t P fs

-- What the transaction reads then: so many pairs came to be held, and this is known of it; each part at all names held chunks alone
-- where `ended`.
pub record IsHeldMap (ended : Type 0) (count : ℕ) (then : KeyMap → Type 0) (u : Txn) (P : Image) (m : KeyMap) : Type 0 where
  pub n : KeyMap
  pub reads : InTxn u P n
  pub by : IsHeldBy count m n
  pub done : then n
  pub all : ended → AllAreHeld n

-- so many pairs, and no more than these, ask for more pages than are free
pub record WantsPages (most : ℕ) (free : ℕ) (m : KeyMap) : Type 0 where
  pub count : ℕ
  pub few : count ≤ most
  pub n : KeyMap
  pub by : IsHeldBy count m n
  pub short : free < 12 * count

module _ {D : Type 0} {g : Ghosts D} where
  -- ---- within a transaction
  -- Of what was read, this was known, and of what is read then, that. A pair writes 22 pages at most, and takes 12.
  pub record HasHeldAs (ended : Type 0) (count : ℕ) (has then : KeyMap → Type 0) (t u : Txn) (old new : Pages D g) : Type 0 where
    pub passed : Passed old new
    pub pages : txn_pages u ≡ txn_pages t
    pub held : (disk_in new).is_honest → (m : KeyMap) → InTxn t (stored old) m → has m → IsHeldMap ended count then u (stored old) m
    pub writes : txn_writes u ≤ txn_writes t + 22 * count
    pub taken : txn_free t ≤ txn_free u + 12 * count
    pub nearer : (disk_in new).is_honest → (m : KeyMap) → InTxn t (stored old) m → has m → Nears (2 * count) t u old

  abbrev pub HasHeld : Type 0 → ℕ → List ℕ → List ℕ → Txn → Txn → Pages D g → Pages D g → Type 0
  HasHeld ended count from next t u old new = HasHeldAs ended count (IsUnderWay from) (AreHeldTo next) t u old new

  -- one pair more is held, or each chunk is and nothing was written
  abbrev pub IsTurn : Bool → (KeyMap → Type 0) → (KeyMap → Type 0) → Txn → Txn → Pages D g → Pages D g → Type 0
  IsTurn true has then t u old new = HasHeldAs ⊥ 1 has then t u old new
  IsTurn false has then t u old new = Passed old new × (u ≡ t) × ((disk_in new).is_honest → (m : KeyMap) → InTxn t (stored old) m → has m → then m × AllAreHeld m)

  -- the tree had six levels when the rows of a pair were put after those of others
  pub record IsDeep (old : Pages D g) (m : KeyMap) : Type 0 where
    pub pairs : List (ℕ × ℕ)
    pub unheld : AreUnheld m pairs
    pub plan : ℕ
    pub number : ℕ
    pub count : ℕ
    pub txn : Txn
    pub deep : HasDeepened (holding_rows plan number count) txn old (hold_pairs m pairs)

  -- why so many pairs aren't held: the device failed; the transaction reads no such map; too few pages were free; the tree was too deep, and
  -- before the first pair near enough to that for two rows a pair
  abbrev pub HoldErrOf : ℕ → (KeyMap → Type 0) → Txn → Pages D g → Pages D g → TreeError → Type 0
  HoldErrOf most has t old new tree.DeviceFault = HasFailed old new
  HoldErrOf most has t old new tree.NotAStore = (disk_in new).is_honest → (m : KeyMap) → InTxn t (stored old) m → has m → ⊥
  HoldErrOf most has t old new tree.Halted = has_halted old ≡ true
  HoldErrOf most has t old new tree.NoPages = (disk_in new).is_honest → (m : KeyMap) → InTxn t (stored old) m → has m → WantsPages most (txn_free t) m
  HoldErrOf most has t old new tree.TooDeep = (disk_in new).is_honest → (m : KeyMap) → InTxn t (stored old) m → has m → IsDeep old m × IsNear (2 * most) t old
  HoldErrOf most has t old new tree.Memory = Unit {0}

  abbrev pub HoldErr : ℕ → List ℕ → Txn → Pages D g → Pages D g → TreeError → Type 0
  HoldErr most from t old new e = HoldErrOf most (IsUnderWay from) t old new e

  -- ---- in pages
  -- only a fault halts, and each one does
  pub record TellsFaults (old new : Pages D g) : Type 0 where
    pub rose : has_halted old ≡ false → has_halted new ≡ true → (disk_in new).is_honest → (disk_in old).faults < (disk_in new).faults
    pub calm : has_halted new ≡ false → (disk_in new).is_honest → (disk_in new).faults ≡ (disk_in old).faults

  -- What a step of a migration leaves: a store of the same size, which stands for the pages at Ok. A halted one refuses each step.
  pub record Steps {A : Type 0} (old new : Pages D g) (result : Result A StoreError) : Type 0 where
    pub shape : HasShape old new
    pub honest : (disk_in new).is_honest → (disk_in old).is_honest
    pub kept : (disk_in new).is_honest → OnOk result (IsKept new)
    pub faults : TellsFaults old new
    pub ok : OnOk result ((has_halted old ≡ false) × (has_halted new ≡ false))
    pub still : has_halted old ≡ true → (result ≡ Err Halted) × IsSame old new

  abbrev pub free_of : Pages D g → ℕ
  free_of ps = length (free_in (stored ps))

  -- The pages hold the desk in the old version, and each part below the key names held chunks alone.
  pub record HoldsTo (from : List ℕ) (ps : Pages D g) (d : Desk) : Type 0 where
    pub m : KeyMap
    pub holds : InPages ps m
    pub is : IsOldMap m d
    pub done : AreHeldTo from m

  -- and so does each part
  pub record HoldsAll (ps : Pages D g) (d : Desk) : Type 0 where
    pub m : KeyMap
    pub holds : InPages ps m
    pub is : IsOldMap m d
    pub all : AllAreHeld m

  -- So many rows were put into a map: two for each pair that came to be held. Fewer than 16 were only where each chunk is held then.
  pub record HoldsMore (count : ℕ) (m : KeyMap) (d : Desk) (next : List ℕ) (ps : Pages D g) : Type 0 where
    pub n : KeyMap
    pub holds : InPages ps n
    pub is : IsOldMap n d
    pub done : AreHeldTo next n
    pub pairs : ℕ
    pub two_each : 2 * pairs ≡ count
    pub by : IsHeldBy pairs m n
    pub clean : count < 16 → AllAreHeld n

  -- fewer than 13 pages are free for each row that would be put, 16 at most
  pub record IsShort (ps : Pages D g) (m : KeyMap) : Type 0 where
    pub pairs : ℕ
    pub few : pairs ≤ 8
    pub n : KeyMap
    pub by : IsHeldBy pairs m n
    pub short : free_of ps < 13 * (2 * pairs)

  -- why no row was put: too few pages are free, or the tree had six levels then, to which 16 rows could bring the stored one; ..
  abbrev pub StepErr : List ℕ → Pages D g → Pages D g → StoreError → Type 0
  StepErr from old new Full = IsQuiet old new × ((disk_in new).is_honest → (m : KeyMap)
      → InPages old m → IsUnderWay from m → IsShort old m ⊎ (IsDeep old m × IsStoredNear 16 old))
  StepErr from old new Memory = IsQuiet old new
  StepErr from old new NotAStore = IsQuiet old new × ((disk_in new).is_honest → (d : Desk) → HoldsTo from old d → ⊥)
  StepErr from old new DeviceFault = HasFailed old new
  StepErr from old new Halted = (has_halted old ≡ true) × IsSame old new
  StepErr from old new _ = ⊥

  -- the tree had six levels when the version's row was put, to whose end one row could bring the stored one
  abbrev pub IsDeepForVersion : Pages D g → Pages D g → Type 0
  IsDeepForVersion old new = (disk_in new).is_honest → (m : KeyMap) → InPages old m → ((t : Txn) × HasDeepened version_rows t old m) × IsStoredNear 1 old

  -- 13 pages are free for that row
  abbrev pub HasRoomForVersion : Pages D g → Pages D g → Type 0
  HasRoomForVersion old new = (disk_in new).is_honest → 13 ≤ free_of old

  -- why the version isn't told
  abbrev pub FinishErr : Pages D g → Pages D g → StoreError → Type 0
  FinishErr old new Full = IsQuiet old new × (((disk_in new).is_honest → free_of old < 13) ⊎ IsDeepForVersion old new)
  FinishErr old new Memory = IsQuiet old new × HasRoomForVersion old new
  FinishErr old new NotAStore = IsQuiet old new × ((disk_in new).is_honest → (d : Desk) → HoldsAll old d → ⊥)
  FinishErr old new DeviceFault = HasRoomForVersion old new × HasFailed old new
  FinishErr old new Halted = (has_halted old ≡ true) × IsSame old new
  FinishErr old new _ = ⊥
