-- What pages and trees refuse, as refusals of a store.
use Rattle.std.specs.Prelude.{◌≡◌, ◌≢◌, Bool, false, if◌then◌else◌}
use Rattle.desk_store_pages.specs.declared.error.StoreError.{StoreError, TheVariants.{TooSmall, NotAStore, Full, Memory, DeviceFault, Halted}}
use Rattle.{page_btree.specs.gets.declared.error.TreeError.TreeError, page_store.specs.{claim.Transactions.has_halted, declared.pages.Pages.Pages}}
use Rattle.{page_store.specs.gate_journal.declared.error.PageError.PageError, sector_device.specs.declared.SectorDevice.Ghosts}
use Rattle.page_store.specs.gate_journal.declared.error.PageError.TheVariants as page
use Rattle.page_btree.specs.gets.declared.error.TreeError.TheVariants as tree

abbrev pub page_refusal : PageError → StoreError
page_refusal page.NotAStore = NotAStore
page_refusal page.DeviceFault = DeviceFault
page_refusal page.Halted = Halted
page_refusal page.TooManyPages = Full
page_refusal page.TooSmall = TooSmall
page_refusal page.NoPages = Full
page_refusal page.Memory = Memory

abbrev pub tree_refusal : TreeError → StoreError
tree_refusal tree.DeviceFault = DeviceFault
tree_refusal tree.NotAStore = NotAStore
tree_refusal tree.Halted = Halted
tree_refusal tree.NoPages = Full
tree_refusal tree.TooDeep = Full
tree_refusal tree.Memory = Memory

-- no such rows are there, or a fault came
abbrev pub missing : Bool → StoreError
missing halted = if halted then DeviceFault else NotAStore

-- no fault came, and no page was wanted
abbrev pub unread : TreeError → StoreError
unread tree.Memory = Memory
unread _ = NotAStore

abbrev pub row_refusal : TreeError → Bool → StoreError
row_refusal e halted = if halted then DeviceFault else unread e

-- nothing but a fault is told of a device that has failed
abbrev pub IsCalm : {D : Type 0} {g : Ghosts D} → Pages D g → StoreError → Type 0
IsCalm new e = e ≢ DeviceFault → has_halted new ≡ false
