-- Failures of the device.
use Rattle.{std.specs.Prelude.{Bool, true, false}, desk_store_pages.specs.declared.error.StoreError.{StoreError, TheVariants.{DeviceFault, Halted}}}

-- the device failed
abbrev pub is_failure : StoreError → Bool
is_failure DeviceFault = true
is_failure Halted = true
is_failure _ = false
