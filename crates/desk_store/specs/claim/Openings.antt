-- What an opening finds, and what it leaves.
use Rattle.{std.specs.Prelude.{Result, Ok, Err}, desk_store.specs.{claim.Clerks.pages_of, declared.clerk.Clerk.Clerk}, desk_store_pages.specs.declared.error.StoreError.StoreError}
use Rattle.{page_store.specs.claim.Transactions.device_in, sector_device.specs.declared.SectorDevice.Ghosts}

abbrev pub device_after : {D : Type 0} {g : Ghosts D} → Result (Clerk D g) (StoreError × D) → D
device_after (Ok x) = device_in (pages_of x)
device_after (Err e) = e.1
