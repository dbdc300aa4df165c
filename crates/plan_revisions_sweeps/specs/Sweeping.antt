-- What a sweep did.
use Rattle.std.specs.Prelude.{◌≡◌, ◌⊎◌, ◌<◌, ◌≤◌, ◌+◌, ◌*◌, ◌↔◌, ℕ, true, false, length, Option, Result}
use Rattle.{desk_model.specs.claim.Desk.Desk, desk_store_pages.specs.{Outcomes.Writes, claim.Desks.{IsDeskMap, InPages as DeskInPages}, declared.error.StoreError.StoreError}}
use Rattle.{desk_store_pages.specs.declared.error.StoreError.TheVariants.{Memory, NotAStore, DeviceFault, Halted}, desk_store_rows.specs.claim.{Rows.KeyMap, Tidy.Tidy}}
use Rattle.{page_btree.specs.gets.{claim.Map.{InTxn, InPages}, declared.error.TreeError.TreeError}, page_store.specs.{claim.Chain.free_in, declared.pages.Pages.Pages}}
use Rattle.page_store.specs.{claim.Transactions.{stored, disk_in, has_halted, txn_pages, txn_free, txn_writes, HasFailed, IsQuiet, IsSame, Passed}, declared.txn.Txn.Txn}
use Rattle.{plan_revisions_sweeps.specs.Leftovers.{IsSweptBy, IsSweptClean}, sector_device.specs.declared.SectorDevice.Ghosts}
use Rattle.page_btree.specs.gets.declared.error.TreeError.TheVariants as tree

-- a map of the same desk, of which so many rows were changed or taken out
pub record IsSweptMap (running : Option ℕ) (count : ℕ) (m : KeyMap) (d : Desk) (n : KeyMap) : Type 0 where
  pub is : IsDeskMap n d
  pub by : IsSweptBy running count m n

-- the map of a desk
abbrev pub HasDesk : KeyMap → Type 0
HasDesk m = (d : Desk) × IsDeskMap m d

module _ {D : Type 0} {g : Ghosts D} where
  -- A transaction took them out: a removal writes 6 pages at most, and a plan lets a chunk go by two rows and 17 pages; none is taken.
  pub record HasSwept (running : Option ℕ) (count : ℕ) (t u : Txn) (old new : Pages D g) : Type 0 where
    pub passed : Passed old new
    pub pages : txn_pages u ≡ txn_pages t
    pub swept : (disk_in new).is_honest → (m : KeyMap) (d : Desk) → InTxn t (stored old) m
        → IsDeskMap m d → (n : KeyMap) × InTxn u (stored old) n × IsSweptMap running count m d n
    pub writes : txn_writes u ≤ txn_writes t + 9 * count
    pub given : (disk_in new).is_honest → (m : KeyMap) (d : Desk) → InTxn t (stored old) m → IsDeskMap m d → txn_free t ≤ txn_free u

  -- no more than these, and none is left where that is so
  pub record AreTaken (most : ℕ) (ended : Type 0) (running : Option ℕ) (count : ℕ) (t u : Txn) (old new : Pages D g) : Type 0 where
    pub few : count ≤ most
    pub swept : HasSwept running count t u old new
    pub clean : (disk_in new).is_honest → (m : KeyMap) → InTxn u (stored old) m → Tidy m → ended → IsSweptClean running m

  -- a turn more was taken, or none is left
  abbrev pub IsTurn : Option ℕ → ℕ → Txn → Txn → Pages D g → Pages D g → Type 0
  IsTurn running count t u old new = AreTaken 2 (count ≡ 0) running count t u old new

  -- why they are not taken out of a map with this: the device failed; the transaction reads no such map
  abbrev pub TakeErr : (KeyMap → Type 0) → Txn → Pages D g → Pages D g → TreeError → Type 0
  TakeErr has t old new tree.DeviceFault = HasFailed old new
  TakeErr has t old new tree.NotAStore = (disk_in new).is_honest → (m : KeyMap) → InTxn t (stored old) m → has m → ⊥
  TakeErr has t old new tree.Halted = has_halted old ≡ true
  TakeErr has t old new tree.NoPages = (disk_in new).is_honest → (m : KeyMap) → InTxn t (stored old) m → has m → ⊥
  TakeErr has t old new tree.TooDeep = (disk_in new).is_honest → (m : KeyMap) → InTxn t (stored old) m → has m → ⊥
  TakeErr has t old new tree.Memory = Unit {0}

  abbrev pub Takes : ℕ → (ℕ → Type 0) → Option ℕ → Txn → Txn → Pages D g → Pages D g → Result ℕ TreeError → Type 0
  Takes most ended running t u old new result =
      Writes (λ count. AreTaken most (ended count) running count t u old new) (TakeErr HasDesk t old new) u old new result

  -- the pages hold what is left then; fewer than 15 rows were changed or taken out only where nothing else was left
  pub record HoldsSwept (running : Option ℕ) (count : ℕ) (m : KeyMap) (d : Desk) (ps : Pages D g) : Type 0 where
    pub n : KeyMap
    pub holds : InPages ps n
    pub swept : IsSweptMap running count m d n
    pub clean : count < 15 → IsSweptClean running n

  -- A sweep changed or took out so many rows: none exactly where none was left, and no fewer pages are free than before.
  pub record Sweeps (running : Option ℕ) (m : KeyMap) (d : Desk) (old new : Pages D g) (count : ℕ) : Type 0 where
    pub holds : HoldsSwept running count m d new
    pub exact : (count ≡ 0) ↔ IsSweptClean running m
    pub free : length (free_in (stored old)) ≤ length (free_in (stored new))

  -- why nothing is swept
  abbrev pub SweepErr : Pages D g → Pages D g → StoreError → Type 0
  SweepErr old new Memory = IsQuiet old new
  SweepErr old new NotAStore = IsQuiet old new × (has_halted new ≡ false) × ((disk_in new).is_honest → (d : Desk) → DeskInPages old d → ⊥)
  SweepErr old new DeviceFault = HasFailed old new ⊎ ((disk_in new).is_honest → ⊥)
  SweepErr old new Halted = (has_halted old ≡ true) × IsSame old new
  SweepErr old new _ = ⊥
