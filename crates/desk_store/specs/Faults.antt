-- What a clerk tells of a transaction that came to nothing.
use Rattle.{std.specs.Prelude.{Bool, true, false}, desk_model.specs.declared.reply.Refusal.Refusal, page_btree.specs.gets.declared.error.TreeError.TreeError}
use Rattle.page_btree.specs.gets.declared.error.TreeError.TheVariants.{DeviceFault, NotAStore, Halted, NoPages, TooDeep, Memory}
use Rattle.desk_model.specs.declared.reply.Refusal.TheVariants as refusal

-- the device failed, or the rows are none that a desk has
abbrev pub is_fault : TreeError → Bool
is_fault DeviceFault = true
is_fault NotAStore = true
is_fault Halted = true
is_fault NoPages = false
is_fault TooDeep = false
is_fault Memory = false

abbrev pub refusal_of : TreeError → Refusal
refusal_of DeviceFault = refusal.Halted
refusal_of NotAStore = refusal.Halted
refusal_of Halted = refusal.Halted
refusal_of NoPages = refusal.Full
refusal_of TooDeep = refusal.Full
refusal_of Memory = refusal.Memory
