-- What it is for a plan to come to hold a chunk, and why it doesn't.
use Rattle.std.specs.Prelude.{◌≡◌, ◌<◌, ◌≤◌, ◌+◌, ◌*◌, ◌^◌, ℕ, Bool, true, false, List, length, Option, Some, None, Contains, Result, MatchResult}
use Rattle.{chunk_table.specs.ChunkChanging.ChangesMap, desk_store_pages.specs.{Outcomes.Writes, Rising.{HasPutWith, PutsErrWith}, claim.Puts.{HasDeepened, IsNear, Nears}}}
use Rattle.desk_store_rows.specs.{Shares.{CanHold, hold_all}, claim.{Holders.{holder_count_row, holding_rows}, Keys.{holding, holder_count}, Puts.Row, Shares.hold}}
use Rattle.{desk_store_rows.specs.claim.Rows.{KeyMap, row_in, Has, Lacks}, page_btree.specs.{gets.{claim.Map.InTxn, declared.error.TreeError.TreeError}, puts.Fingers.Stand}}
use Rattle.page_btree.specs.{gets.declared.error.TreeError.TheVariants.{DeviceFault, NotAStore, Halted, NoPages, TooDeep, Memory}, puts.declared.finger.Fingers.Fingers}
use Rattle.page_store.specs.{claim.Transactions.{stored, disk_in, has_halted, txn_pages, txn_free, txn_writes, HasFailed, Passed}, declared.{pages.Pages.Pages, txn.Txn.Txn}}
use Rattle.sector_device.specs.declared.SectorDevice.{Ghosts}

-- a holding row is there, or not
abbrev pub Stands : Bool → ℕ → ℕ → KeyMap → Type 0
Stands true plan number m = (value : List ℕ) × Has m (holding plan number) value
Stands false plan number m = Lacks m (holding plan number)

-- the chunk's count is told
abbrev pub HasHolderCount : ℕ → KeyMap → Type 0
HasHolderCount number m = (count : ℕ) × (count < 2 ^ 64) × (row_in m (holder_count number) ≡ holder_count_row count)

-- the count that a row tells, if there is a row; or no count has such a row
abbrev pub IsCountOf : Option (List ℕ) → Result ℕ TreeError → Type 0
IsCountOf row result = MatchResult result (λ count. row ≡ holder_count_row count) (λ e. (e ≡ NotAStore) × ((count : ℕ) → count < 2 ^ 64 → row ≡ holder_count_row count → ⊥))

-- the plan holds no chunk from a number on, if there is one
abbrev pub IsFreeFrom : Option ℕ → ℕ → KeyMap → Type 0
IsFreeFrom None plan m = Unit {0}
IsFreeFrom (Some from) plan m = (number : ℕ) → from ≤ number → number < 2 ^ 64 → Lacks m (holding plan number)

-- in a map the plan can come to hold chunks of these numbers
abbrev pub CanHoldAll : ℕ → List ℕ → KeyMap → Type 0
CanHoldAll plan numbers m = (limit : ℕ) × CanHold m limit plan × ((number : ℕ) → Contains numbers number → number < 2 ^ 64)

module _ {D : Type 0} {g : Ghosts D} where
  -- The plan holds the chunk then, by two rows at most.
  pub record HasHeld (plan number : ℕ) (t u : Txn) (old new : Pages D g) : Type 0 where
    pub passed : Passed old new
    pub pages : txn_pages u ≡ txn_pages t
    pub held : (disk_in new).is_honest → (m : KeyMap) → InTxn t (stored old) m → InTxn u (stored old) (hold m plan number)
    pub writes : txn_writes u ≤ txn_writes t + 22
    pub taken : txn_free t ≤ txn_free u + 12
    pub nearer : (disk_in new).is_honest → (m : KeyMap) → InTxn t (stored old) m → Nears 2 t u old

  -- no map that the transaction reads has the row by which the plan holds the chunk
  abbrev pub IsUnheld : ℕ → ℕ → Txn → Pages D g → Type 0
  IsUnheld plan number t p = (disk_in p).is_honest → (m : KeyMap) → InTxn t (stored p) m → Lacks m (holding plan number)

  -- The same of the maps of which `says` holds, where both fingers stood: both stand then.
  pub record HasHeldWith (were fs : Fingers) (says : KeyMap → Type 0) (plan number : ℕ) (t u : Txn) (old new : Pages D g) : Type 0 where
    pub passed : Passed old new
    pub pages : txn_pages u ≡ txn_pages t
    pub held : (disk_in new).is_honest → (m : KeyMap) → InTxn t (stored old) m → says m → Stand t (stored old) were
        → InTxn u (stored old) (hold m plan number) × Stand u (stored old) fs
    pub writes : txn_writes u ≤ txn_writes t + 22
    pub taken : txn_free t ≤ txn_free u + 12
    pub nearer : (disk_in new).is_honest → (m : KeyMap) → InTxn t (stored old) m → says m → Stand t (stored old) were → Nears 2 t u old

  -- whether the plan held it before
  abbrev pub WasHeld : Bool → ℕ → ℕ → Txn → Pages D g → Pages D g → Type 0
  WasHeld was plan number t old new = (disk_in new).is_honest → (m : KeyMap) → InTxn t (stored old) m → Stands was plan number m

  -- rows were put, since it didn't, or none, since it did
  abbrev pub IsHolding : Bool → ℕ → ℕ → Txn → Txn → Pages D g → Pages D g → Type 0
  IsHolding true plan number t u old new = HasHeld plan number t u old new × WasHeld false plan number t old new
  IsHolding false plan number t u old new = HasHeld plan number t u old new × WasHeld true plan number t old new × (u ≡ t)

  -- why it doesn't, where the transaction reads a map of which `may` holds, if it reads any: the device failed, or that is no map in which
  -- the plan can hold chunks; too few pages were free; the tree was too deep
  abbrev pub HoldErrOf : (KeyMap → Type 0) → ℕ → ℕ → Txn → Pages D g → Pages D g → TreeError → Type 0
  HoldErrOf may plan number t old new DeviceFault = HasFailed old new
  HoldErrOf may plan number t old new NotAStore = (disk_in new).is_honest → (m : KeyMap) (limit : ℕ)
      → InTxn t (stored old) m → may m → CanHold m limit plan → number < 2 ^ 64 → ⊥
  HoldErrOf may plan number t old new Halted = has_halted old ≡ true
  HoldErrOf may plan number t old new NoPages = txn_free t < 12
  HoldErrOf may plan number t old new TooDeep = (disk_in new).is_honest → (m : KeyMap)
      → InTxn t (stored old) m → may m → (count : ℕ) × HasDeepened (holding_rows plan number count) t old m × IsNear 2 t old
  HoldErrOf may plan number t old new Memory = Unit {0}

  abbrev pub HoldErr : ℕ → ℕ → Txn → Pages D g → Pages D g → TreeError → Type 0
  HoldErr plan number t old new e = HoldErrOf (λ m. Unit {0}) plan number t old new e

  -- where both fingers stood
  abbrev pub HoldErrWith : Fingers → (KeyMap → Type 0) → ℕ → ℕ → Txn → Pages D g → Pages D g → TreeError → Type 0
  HoldErrWith were says plan number t old new e = HoldErrOf (λ m. says m × Stand t (stored old) were) plan number t old new e

  -- ---- what calls tell of it
  abbrev pub HoldsChunk : ℕ → ℕ → Txn → Txn → Pages D g → Pages D g → Result Bool TreeError → Type 0
  HoldsChunk plan number t u old new result = Writes (λ put. IsHolding put plan number t u old new) (HoldErr plan number t old new) u old new result

  -- the same of a plan that doesn't hold the chunk
  abbrev pub HoldsUnheld : {T : Type 0} → ℕ → ℕ → Txn → Txn → Pages D g → Pages D g → Result T TreeError → Type 0
  HoldsUnheld plan number t u old new result = Writes (λ _. HasHeld plan number t u old new) (HoldErr plan number t old new) u old new result

  -- and where both fingers stood
  abbrev pub HoldsWith : {T : Type 0} → Fingers → Fingers → (KeyMap → Type 0) → ℕ → ℕ → Txn → Txn → Pages D g → Pages D g → Result T TreeError → Type 0
  HoldsWith were fs says plan number t u old new result =
      Writes (λ _. HasHeldWith were fs says plan number t u old new) (HoldErrWith were says plan number t old new) u old new result

  -- rows were put by leaves that are known
  abbrev pub PutsWith : {T : Type 0} → Fingers → Fingers → List Row → Txn → Txn → Pages D g → Pages D g → Result T TreeError → Type 0
  PutsWith were fs rows t u old new result = Writes (λ _. HasPutWith were fs rows t u old new) (PutsErrWith were rows t old new) u old new result

  -- the plan holds each chunk of a list then, by two rows a chunk at most
  abbrev pub HoldsChunks : {T : Type 0} → ℕ → List ℕ → Txn → Txn → Pages D g → Pages D g → Result T TreeError → Type 0
  HoldsChunks plan numbers t u old new result = ChangesMap (CanHoldAll plan numbers)
      (λ m. hold_all m plan numbers) (2 * length numbers) t u old new result
