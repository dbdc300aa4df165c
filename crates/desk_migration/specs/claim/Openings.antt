-- What an opening for a migration finds, and what it leaves.
use Rattle.{std.specs.Prelude.{Result, Ok, Err}, desk_migration.specs.declared.migration.Migration.Migration, desk_store_pages.specs.declared.error.StoreError.StoreError}
use Rattle.{page_store.specs.gate_journal.claim.Store.pages, sector_device.specs.declared.SectorDevice.Ghosts}

abbrev pub device_after : {D : Type 0} {g : Ghosts D} → Result (Migration D g) (StoreError × D) → D
device_after (Ok x) = x.pages.journal.device
device_after (Err e) = e.1
