-- Why nothing is stored: what of a store is told as what.
use Rattle.{desk_store_pages.specs.declared.error.StoreError.StoreError, store_command.specs.declared.fault.StoreFault.StoreFault}
use Rattle.store_command.specs.declared.fault.StoreFault.TheVariants.{TooSmall, NotAStore, OldVersion, AlreadyNew, AlreadySealed, Full, DeviceFault, Memory}
use Rattle.desk_store_pages.specs.declared.error.StoreError.TheVariants as store

abbrev pub fault_of_store : StoreError → StoreFault
fault_of_store store.TooSmall = TooSmall
fault_of_store store.NotAStore = NotAStore
fault_of_store store.OldVersion = OldVersion
fault_of_store store.AlreadyNew = AlreadyNew
fault_of_store store.AlreadySealed = AlreadySealed
fault_of_store store.Ended = DeviceFault
fault_of_store store.Full = Full
fault_of_store store.Memory = Memory
fault_of_store store.DeviceFault = DeviceFault
fault_of_store store.Halted = DeviceFault
