-- What no promise rests on, beside claim/Errors.antt.
use Rattle.page_btree_gets.specs.declared.error.TreeError.{TreeError, TheVariants.{DeviceFault, NotAStore, Halted, NoPages, TooDeep, Memory}}
use Rattle.page_store.specs.gate_journal.declared.error.PageError.{PageError}
use Rattle.page_store.specs.gate_journal.declared.error.PageError.TheVariants as page

-- the pages' refusal, as one of a tree. Those of openings and commits don't come
abbrev pub tree_error : PageError → TreeError
tree_error page.NotAStore = NotAStore
tree_error page.DeviceFault = DeviceFault
tree_error page.Halted = Halted
tree_error page.TooManyPages = DeviceFault
tree_error page.TooSmall = DeviceFault
tree_error page.NoPages = NoPages
tree_error page.Memory = Memory

-- it isn't for want of room
abbrev pub IsNoWant : TreeError → Type 0
IsNoWant DeviceFault = Unit {0}
IsNoWant NotAStore = Unit {0}
IsNoWant Halted = Unit {0}
IsNoWant NoPages = ⊥
IsNoWant TooDeep = ⊥
IsNoWant Memory = Unit {0}
