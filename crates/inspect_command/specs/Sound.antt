-- Rows that a desk leaves.
use Rattle.std.specs.Prelude.{◌≡◌, ℕ, true, List, Option, Some, None}
use Rattle.{desk_model.specs.{Ranges.ranges_in, claim.Desk.Desk}, desk_store.specs.desk_store_opening.Opening.{HasVersion, IsReadFrom}, desk_store_pages.specs.claim.Desks.InTxn}
use Rattle.{desk_store.specs.plan_revisions_sweeps.claim.Checks.AreSoundHoldings, desk_store_rows.specs.claim.{Keys.{version, in_four}, Rows.{KeyMap, Has, Lacks}}}
use Rattle.{page_btree.specs.gets.{claim.Map.InTxn as HasRows, declared.error.TreeError.TreeError}, page_store.specs.claim.Transactions.{disk_in, has_halted, stored, HasFailed}}
use Rattle.{page_store.specs.declared.{pages.Pages.Pages, txn.Txn.Txn}, sector_device.specs.declared.SectorDevice.Ghosts, store_command.specs.declared.fault.StoreFault.StoreFault}
use Rattle.{store_command.specs.declared.fault.StoreFault.TheVariants.{NotAStore, OldVersion, DeviceFault, Memory}, store_verification.specs.rows.Strays.{AllBelong, IsStray}}
use Rattle.store_verification.specs.rows.{Wholes.AreWhole, declared.wrong.WrongRow.WrongRow}
use Rattle.page_btree.specs.gets.declared.error.TreeError.TheVariants as tree

-- The rows tell the new version; what an opening reads of them is this desk; each key is that of a row, and each part and piece says what
-- it has; each row belongs to its store; each chunk's count is that of the plans that hold it, and a plan that is there holds what it
-- names. They are so many.
pub record IsSound (rows : ℕ) (m : KeyMap) (d : Desk) : Type 0 where
  pub version : Has m version (in_four 2)
  pub read : IsReadFrom m d
  pub whole : AreWhole rows m
  pub belong : AllBelong (ranges_in d.geography) m
  pub holdings : AreSoundHoldings m

-- and it is those of some desk
abbrev pub HasSound : ℕ → KeyMap → Type 0
HasSound rows m = (d : Desk) × IsSound rows m d

-- what an opening and the checks after it say, before the version is looked at
pub record IsFoundSo (rows : ℕ) (m : KeyMap) (d : Desk) : Type 0 where
  pub read : IsReadFrom m d
  pub whole : AreWhole rows m
  pub belong : AllBelong (ranges_in d.geography) m
  pub holdings : AreSoundHoldings m

-- what is read of the rows is a desk, and the row with this key doesn't belong beside its geography
abbrev pub HasStray : KeyMap → List ℕ → Type 0
HasStray m key = (d : Desk) × IsReadFrom m d × IsStray (ranges_in d.geography) m key

-- no row is told, and that was found; or this one is a stray
abbrev pub IsFoundAs : Option WrongRow → ℕ → KeyMap → Type 0
IsFoundAs None rows m = (d : Desk) × IsFoundSo rows m d
IsFoundAs (Some row) rows m = HasStray m row.key

-- the same of sound rows
abbrev pub IsSoundAs : Option WrongRow → ℕ → KeyMap → Type 0
IsSoundAs None rows m = HasSound rows m
IsSoundAs (Some row) rows m = HasStray m row.key

module _ {D : Type 0} {g : Ghosts D} where
  -- why rows aren't found to be a desk's in a transaction: the device failed, or they are none; or a growth was refused
  abbrev pub CheckErr : Txn → Pages D g → Pages D g → TreeError → Type 0
  CheckErr t old new tree.DeviceFault = HasFailed old new
  CheckErr t old new tree.NotAStore = (disk_in new).is_honest → (d : Desk) → InTxn t (stored old) d → ⊥
  CheckErr t old new tree.Halted = has_halted old ≡ true
  CheckErr t old new tree.Memory = Unit {0}
  CheckErr t old new _ = ⊥

  -- why rows aren't of version 2: they tell no version, or none that there is, or the device failed
  abbrev pub OldIn : Txn → Pages D g → Pages D g → StoreFault → Type 0
  OldIn t old new NotAStore = (disk_in new).is_honest → (m : KeyMap) → HasRows t (stored old) m → HasVersion m → ⊥
  OldIn t old new OldVersion = (disk_in new).is_honest → (m : KeyMap) → HasRows t (stored old) m → Lacks m version
  OldIn t old new DeviceFault = has_halted new ≡ true
  OldIn t old new _ = ⊥

  -- the same as a fault that is told
  abbrev pub UnsoundIn : Txn → Pages D g → Pages D g → StoreFault → Type 0
  UnsoundIn t old new NotAStore = (disk_in new).is_honest → (d : Desk) → InTxn t (stored old) d → ⊥
  UnsoundIn t old new OldVersion = (disk_in new).is_honest → (d : Desk) → InTxn t (stored old) d → ⊥
  UnsoundIn t old new DeviceFault = has_halted new ≡ true
  UnsoundIn t old new Memory = Unit {0}
  UnsoundIn t old new _ = ⊥
