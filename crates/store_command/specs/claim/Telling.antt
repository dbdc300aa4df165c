-- What is told of a store that isn't made or filled, and the status that goes with it.
use Rattle.std.specs.{Prelude.{◌≡◌, ℕ, List, ◌++◌, codes, decimal, Result, Ok, Err, Vec}, declared.alloc.Global.Global}
use Rattle.{command_output.specs.{claim.Writing.{Written, Told, Prints}, declared.status.Status.Status}, store_command.specs.declared.fault.StoreFault.StoreFault}
use Rattle.store_command.specs.declared.fault.StoreFault.TheVariants.{NotFound, WrongSize, Exists, TooSmall, NotAStore, OldVersion, AlreadyNew, AlreadySealed, Full, DeviceFault, Memory}
use Rattle.command_output.specs.declared.status.Status.TheVariants as status

abbrev pub name_of : StoreFault → List ℕ
name_of NotFound = codes "NotFound"
name_of WrongSize = codes "WrongSize"
name_of Exists = codes "Exists"
name_of TooSmall = codes "TooSmall"
name_of NotAStore = codes "NotAStore"
name_of OldVersion = codes "OldVersion"
name_of AlreadyNew = codes "AlreadyNew"
name_of AlreadySealed = codes "AlreadySealed"
name_of Full = codes "Full"
name_of DeviceFault = codes "DeviceFault"
name_of Memory = codes "Memory"

abbrev pub store_line : StoreFault → List ℕ
store_line fault = codes "plandesk: store: " ++ name_of fault ++ codes "\n"

-- the line of so many rows
abbrev pub rows_text : (words : List ℕ) → (rows : ℕ) → List ℕ
rows_text words rows = words ++ decimal rows ++ codes " rows\n"

-- 5 where memory was refused, and 4 for all else
abbrev pub status_of : StoreFault → Status
status_of NotFound = status.Store
status_of WrongSize = status.Store
status_of Exists = status.Store
status_of TooSmall = status.Store
status_of NotAStore = status.Store
status_of OldVersion = status.Store
status_of AlreadyNew = status.Store
status_of AlreadySealed = status.Store
status_of Full = status.Store
status_of DeviceFault = status.Store
status_of Memory = status.Memory

abbrev pub TellsStore : StoreFault → Status → (before after : Written) → Type 0
TellsStore fault end before after = (end ≡ status_of fault) × Told before after (store_line fault)

-- the text is printed, and this line told where that fails; or nothing is, and the fault is told
abbrev pub EndsStore : List ℕ → Result (Vec ℕ Global) StoreFault → Status → (before after told_before told_after : Written) → Type 0
EndsStore line (Ok text) end before after told_before told_after = Prints line text.items status.Done end before after told_before told_after
EndsStore line (Err fault) end before after told_before told_after = (after ≡ before) × TellsStore fault end told_before told_after
