-- One step of the desk that a transaction reads, and why there was none.
use Rattle.std.specs.{FinMap.remove, Prelude.{◌≡◌, ◌⊎◌, ◌<◌, ◌≤◌, ◌+◌, ◌*◌, ℕ, List, length, true}}
use Rattle.{desk_model.specs.claim.Desk.Desk, desk_store_pages.specs.claim.{Desks.InTxn, Puts.{HasDeepened, IsNear}}, desk_store_rows.specs.claim.{Puts.Row, Rows.KeyMap}}
use Rattle.{desk_store_rows.specs.{claim.Tidy.{IsNext, CountersFit}, declared.value.Counters.Counters}, page_btree.specs.gets.claim.Map.InTxn as HasMap}
use Rattle.page_btree.specs.gets.declared.error.TreeError.{TreeError, TheVariants.{DeviceFault, NotAStore, Halted, NoPages, TooDeep, Memory}}
use Rattle.page_store.specs.{claim.Transactions.{stored, disk_in, has_halted, txn_pages, txn_free, txn_writes, HasFailed, Passed}, declared.{pages.Pages.Pages, txn.Txn.Txn}}
use Rattle.plan_revisions.specs.{claim.Outcomes.HasExhausted, declared.change.ChangeOutcome.{ChangeOutcome, TheVariants.{Made, NumbersExhausted}}}
use Rattle.sector_device.specs.declared.SectorDevice.{Ghosts}

-- a map, or that without one of its rows
abbrev pub IsLess : KeyMap → KeyMap → Type 0
IsLess m less = (less ≡ m) ⊎ ((key : List ℕ) × (less ≡ remove m key))

module _ {D : Type 0} {g : Ghosts D} where
  -- of each desk of which `says` holds the transaction then reads the next one; so many rows were put at most, each of which writes 11
  -- pages and takes 6
  pub record HasStepped (says : Desk → Type 0) (next : Desk → Desk) (rows : ℕ) (t u : Txn) (old new : Pages D g) : Type 0 where
    pub passed : Passed old new
    pub pages : txn_pages u ≡ txn_pages t
    pub desk : (disk_in new).is_honest → (d : Desk) → InTxn t (stored old) d → says d → InTxn u (stored old) (next d)
    pub writes : txn_writes u ≤ txn_writes t + 11 * rows
    pub taken : txn_free t ≤ txn_free u + 6 * rows

  -- the numbers that a map of the transaction has were left
  abbrev pub LeavesNumbers : (Counters → Type 0) → Txn → Pages D g → Pages D g → Type 0
  LeavesNumbers enough t old new = (disk_in new).is_honest → (m : KeyMap) (next : Counters)
      → HasMap t (stored old) m → CountersFit next → IsNext m next → enough next

  -- it did, and the numbers that it asks for were left; or they weren't, and nothing was written
  abbrev pub IsStepped : (Desk → Type 0) → (Desk → Desk) → ℕ → (Counters → Type 0) → Txn → Txn → Pages D g → Pages D g → ChangeOutcome → Type 0
  IsStepped says next rows enough t u old new Made = HasStepped says next rows t u old new × LeavesNumbers enough t old new
  IsStepped says next rows enough t u old new NumbersExhausted = HasExhausted enough t u old new

  -- the tree had six levels after some of the step's rows, which were put into the transaction's map, or into that without one row; and so
  -- many rows could bring the transaction's tree to the end of its sixth level
  pub record IsDeep (rows : ℕ) (t : Txn) (old : Pages D g) : Type 0 where
    pub m : KeyMap
    pub holds : HasMap t (stored old) m
    pub less : KeyMap
    pub is_less : IsLess m less
    pub put : List Row
    pub few : length put ≤ rows
    pub deep : HasDeepened put t old less
    pub near : IsNear rows t old

  -- why there was no step: the device failed; the transaction reads no such desk; too few pages were free; the tree was too deep
  abbrev pub StepErr : (Desk → Type 0) → ℕ → Txn → Pages D g → Pages D g → TreeError → Type 0
  StepErr says rows t old new DeviceFault = HasFailed old new
  StepErr says rows t old new NotAStore = (disk_in new).is_honest → (d : Desk) → InTxn t (stored old) d → says d → ⊥
  StepErr says rows t old new Halted = has_halted old ≡ true
  StepErr says rows t old new NoPages = txn_free t < 6 * rows
  StepErr says rows t old new TooDeep = (disk_in new).is_honest → (d : Desk) → InTxn t (stored old) d → IsDeep rows t old
  StepErr says rows t old new Memory = Unit {0}
