-- What comes of looking at the rows of a transaction.
use Rattle.std.specs.Prelude.{◌≡◌, Result, OnOk, IfOk, IfErr}
use Rattle.{desk_store_pages.specs.Reading.SeekErr, desk_store_rows.specs.claim.Rows.KeyMap, page_btree.specs.gets.{claim.Map.InTxn, declared.error.TreeError.TreeError}}
use Rattle.{page_store.specs.{claim.Transactions.{stored, disk_in, IsQuiet, Passed}, declared.{pages.Pages.Pages, txn.Txn.Txn}}, sector_device.specs.declared.SectorDevice.Ghosts}

-- The pages were only read. What was found is so of the rows that the transaction reads; else the device failed, they have no such
-- thing as was looked for, or memory was short, where `short` allows it.
pub record Seeks {D X : Type 0} {g : Ghosts D} (short : Type 0) (says : KeyMap → X → Type 0) (has : KeyMap → Type 0) (t : Txn) (old new : Pages D g)
    (result : Result X TreeError) : Type 0 where
  pub quiet : IsQuiet old new
  pub passed : OnOk result (Passed old new)
  pub there : (disk_in new).is_honest → (m : KeyMap) → InTxn t (stored old) m → IfOk result (says m)
  pub err : IfErr result (SeekErr short has t old new)

-- looking takes no memory
abbrev pub Looks : {D X : Type 0} {g : Ghosts D} → (KeyMap → X → Type 0) → (KeyMap → Type 0) → Txn → Pages D g → Pages D g → Result X TreeError → Type 0
Looks says has t old new result = Seeks ⊥ says has t old new result

-- gathering may take it
abbrev pub Gathers : {D X : Type 0} {g : Ghosts D} → (KeyMap → X → Type 0) → (KeyMap → Type 0) → Txn → Pages D g → Pages D g → Result X TreeError → Type 0
Gathers says has t old new result = Seeks (Unit {0}) says has t old new result

-- a map says a value
abbrev pub Says : {X : Type 0} → (KeyMap → X → Type 0) → KeyMap → Type 0
Says {X} says m = (x : X) × says m x

-- of this value it is so, and of no other
pub record IsOnly {X : Type 0} (is : X → Type 0) (x : X) : Type 0 where
  pub said : is x
  pub only : (y : X) → is y → x ≡ y
