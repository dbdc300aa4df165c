-- Why no desk of the new version is found in pages.
use Rattle.std.specs.Prelude.{◌≡◌, ◌⊎◌, Bool, true}
use Rattle.{desk_model.specs.claim.Desk.Desk, desk_store_opening.specs.Held.{AreOld, GoesOn, IsHeld}, desk_store_pages.specs.Desks.InPagesAs}
use Rattle.{desk_store_pages.specs.declared.error.StoreError.{StoreError, TheVariants.{NotAStore, DeviceFault, Memory, OldVersion}}, page_store.specs.declared.pages.Pages.Pages}
use Rattle.{page_store.specs.claim.Transactions.{stored, disk_in, count_of, has_halted}, sector_device.specs.declared.SectorDevice.Ghosts}

-- the pages hold no desk, the device failed, a growth was refused, or they hold rows of which none tells a version
abbrev pub FindErr : {D : Type 0} {g : Ghosts D} → Pages D g → Pages D g → StoreError → Type 0
FindErr old new NotAStore = (disk_in new).is_honest → (x : Bool × Desk) → InPagesAs old x → ⊥
FindErr old new DeviceFault = has_halted new ≡ true
FindErr old new Memory = Unit {0}
FindErr old new OldVersion = (disk_in new).is_honest → AreOld (count_of old) (stored old)
FindErr old new _ = ⊥

-- the same of pages whose rows tell no version
abbrev pub OldErr : {D : Type 0} {g : Ghosts D} → Pages D g → Pages D g → StoreError → Type 0
OldErr old new OldVersion = (disk_in new).is_honest → IsHeld (count_of old) (stored old) ⊎ GoesOn (stored old)
OldErr old new e = FindErr old new e
