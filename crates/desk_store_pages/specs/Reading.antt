-- Rows that are read in a transaction.
use Rattle.std.specs.{FinMap.get as row_at, Prelude.{◌≡◌, ℕ, List, Option, Some, true, Result, MatchResult, option_map}}
use Rattle.{desk_store_rows.specs.{claim.{Rows.KeyMap, Tidy.IsNext}, declared.value.Counters.Counters}, page_btree.specs.gets.{claim.Map.InTxn, declared.error.TreeError.TreeError}}
use Rattle.page_btree.specs.{gets.declared.error.TreeError.TheVariants.{DeviceFault, NotAStore, Halted, Memory}, puts.{Fingers.Stand, declared.finger.Fingers.Fingers}}
use Rattle.page_store.specs.{claim.Transactions.{stored, disk_in, has_halted, HasFailed}, declared.{pages.Pages.Pages, txn.Txn.Txn}}
use Rattle.sector_device.specs.declared.SectorDevice.{Ghosts}

-- under a key stands the value, or none
abbrev pub StandsAs : {X : Type 0} → (X → List ℕ) → List ℕ → KeyMap → Option X → Type 0
StandsAs bytes key m value = option_map bytes value ≡ row_at m key

-- what was copied, or none, is read as a value, or is none's bytes
abbrev pub IsReadAs : {X : Type 0} → (X → List ℕ) → Option (List ℕ) → Result (Option X) TreeError → Type 0
IsReadAs {X} bytes copied result =
    MatchResult result (λ value. option_map bytes value ≡ copied) (λ e. (e ≡ NotAStore) × ((value : Option X) → option_map bytes value ≡ copied → ⊥))

-- a row is there
abbrev pub HasRow : List ℕ → KeyMap → Type 0
HasRow key m = (value : List ℕ) × (row_at m key ≡ Some value)

-- a map has counters, or none of them were given yet
abbrev pub HasNext : KeyMap → Type 0
HasNext m = (next : Counters) × IsNext m next

module _ {D : Type 0} {g : Ghosts D} where
  -- Why what a map is to have isn't read: the device failed, or the transaction has no such map. `short` says whether memory may be short.
  abbrev pub SeekErr : Type 0 → (KeyMap → Type 0) → Txn → Pages D g → Pages D g → TreeError → Type 0
  SeekErr short has t old new DeviceFault = HasFailed old new
  SeekErr short has t old new NotAStore = (disk_in new).is_honest → (m : KeyMap) → InTxn t (stored old) m → has m → ⊥
  SeekErr short has t old new Halted = has_halted old ≡ true
  SeekErr short has t old new Memory = short
  SeekErr short has t old new _ = ⊥

  -- the same where no memory is taken
  abbrev pub ReadErr : (KeyMap → Type 0) → Txn → Pages D g → Pages D g → TreeError → Type 0
  ReadErr has t old new e = SeekErr ⊥ has t old new e

  -- the same where both fingers stood
  abbrev pub ReadErrWith : Fingers → (KeyMap → Type 0) → Txn → Pages D g → Pages D g → TreeError → Type 0
  ReadErrWith were has t old new DeviceFault = HasFailed old new
  ReadErrWith were has t old new NotAStore = (disk_in new).is_honest → (m : KeyMap) → InTxn t (stored old) m → Stand t (stored old) were → has m → ⊥
  ReadErrWith were has t old new Halted = has_halted old ≡ true
  ReadErrWith were has t old new _ = ⊥
