-- What became of a change of plans, and why it was refused.
use Rattle.std.specs.{FinMap.remove, Prelude.{◌≡◌, ◌<◌, ◌≤◌, ◌+◌, ℕ, List, true}}
use Rattle.{desk_store_pages.specs.claim.Puts.{HasPut, HasDeepened, IsNear}, desk_store_rows.specs.claim.{Keys.{key_of, named}, Puts.Row, Rows.KeyMap, Tidy.{IsNext, CountersFit}}}
use Rattle.{desk_store_rows.specs.declared.value.Counters.Counters, page_btree.specs.gets.{claim.{Errors.IsUnsound, Map.InTxn}, declared.error.TreeError.TreeError}}
use Rattle.{page_btree.specs.gets.declared.error.TreeError.TheVariants.{DeviceFault, NotAStore, Halted, NoPages, TooDeep, Memory}, page_store.specs.declared.pages.Pages.Pages}
use Rattle.page_store.specs.{claim.Transactions.{stored, disk_in, has_halted, txn_pages, txn_free, txn_writes, HasFailed, Passed}, declared.txn.Txn.Txn}
use Rattle.plan_revisions.specs.{claim.PlanRows.{retired_rows, retired_map}, declared.change.ChangeOutcome.{ChangeOutcome, TheVariants.{Made, NumbersExhausted}}}
use Rattle.sector_device.specs.declared.SectorDevice.{Ghosts}

module _ {D : Type 0} {g : Ghosts D} where
  -- the transaction's map has these numbers
  pub record AreNext (next : Counters) (t : Txn) (old new : Pages D g) : Type 0 where
    pub fit : CountersFit next
    pub told : (disk_in new).is_honest → (m : KeyMap) → InTxn t (stored old) m → IsNext m next

  -- the rows were put that the numbers ask for, of which there were enough
  pub record HasNumbered (enough : Counters → Type 0) (rows : Counters → List Row) (t u : Txn) (old new : Pages D g) : Type 0 where
    pub next : Counters
    pub are_next : AreNext next t old new
    pub room : enough next
    pub put : HasPut (rows next) t u old new

  -- or there were not
  pub record HasExhausted (enough : Counters → Type 0) (t u : Txn) (old new : Pages D g) : Type 0 where
    pub next : Counters
    pub are_next : AreNext next t old new
    pub none : enough next → ⊥
    pub passed : Passed old new
    pub same : u ≡ t

  abbrev pub IsChanged : (Counters → Type 0) → (Counters → List Row) → Txn → Txn → Pages D g → Pages D g → ChangeOutcome → Type 0
  IsChanged enough rows t u old new Made = HasNumbered enough rows t u old new
  IsChanged enough rows t u old new NumbersExhausted = HasExhausted enough t u old new

  -- why a change of two rows that asks for numbers was refused
  abbrev pub ChangeErr : (Counters → List Row) → Txn → Pages D g → Pages D g → TreeError → Type 0
  ChangeErr rows t old new DeviceFault = HasFailed old new
  ChangeErr rows t old new NotAStore = (disk_in new).is_honest → (m : KeyMap) (next : Counters) → InTxn t (stored old) m → IsNext m next → ⊥
  ChangeErr rows t old new Halted = has_halted old ≡ true
  ChangeErr rows t old new NoPages = txn_free t < 12
  ChangeErr rows t old new TooDeep = (disk_in new).is_honest → (m : KeyMap) → InTxn t (stored old) m
      → (next : Counters) × CountersFit next × IsNext m next × HasDeepened (rows next) t old m × IsNear 2 t old
  ChangeErr rows t old new Memory = Unit {0}

  -- the plan was taken away
  pub record HasRetired (name : List ℕ) (number : ℕ) (t u : Txn) (old new : Pages D g) : Type 0 where
    pub passed : Passed old new
    pub pages : txn_pages u ≡ txn_pages t
    pub retired : (disk_in new).is_honest → (m : KeyMap) → InTxn t (stored old) m → InTxn u (stored old) (retired_map m name number)
    pub writes : txn_writes u ≤ txn_writes t + 17
    pub taken : txn_free t ≤ txn_free u + 6

  -- why it was not
  abbrev pub RetireErr : List ℕ → ℕ → Txn → Pages D g → Pages D g → TreeError → Type 0
  RetireErr name number t old new DeviceFault = HasFailed old new
  RetireErr name number t old new NotAStore = IsUnsound t old new
  RetireErr name number t old new Halted = has_halted old ≡ true
  RetireErr name number t old new NoPages = txn_free t < 6
  RetireErr name number t old new TooDeep = (disk_in new).is_honest → (m : KeyMap)
      → InTxn t (stored old) m → HasDeepened (retired_rows number) t old (remove m (key_of (named name))) × IsNear 1 t old
  RetireErr name number t old new Memory = Unit {0}
