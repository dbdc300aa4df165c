-- Why pages aren't found sound.
use Rattle.std.specs.Prelude.{◌≡◌, true}
use Rattle.{gate_journal.specs.declared.error.PageError.PageError, page_btree_checks.specs.declared.error.PagesError.PagesError, page_store.specs.declared.pages.Pages.Pages}
use Rattle.{page_btree_checks.specs.declared.error.PagesError.TheVariants.{Unsound, DeviceFault, Halted, Memory}, sector_device.specs.declared.SectorDevice.Ghosts}
use Rattle.page_store.specs.claim.Transactions.{disk_in, has_halted, HasFailed}
use Rattle.gate_journal.specs.declared.error.PageError.TheVariants as page

-- the refusal of a read. Those of openings and commits don't come
abbrev pub pages_error : PageError → PagesError
pages_error page.Halted = Halted
pages_error page.Memory = Memory
pages_error _ = DeviceFault

module _ {D : Type 0} {g : Ghosts D} where
  -- what is to be so of the pages isn't, or they couldn't be read
  abbrev pub PagesErr : Type 0 → Pages D g → Pages D g → PagesError → Type 0
  PagesErr sound old new (Unsound fault) = (disk_in new).is_honest → sound → ⊥
  PagesErr sound old new DeviceFault = HasFailed old new
  PagesErr sound old new Halted = has_halted old ≡ true
  PagesErr sound old new Memory = ⊥

  -- or a growth was refused
  abbrev pub CheckErr : Type 0 → Pages D g → Pages D g → PagesError → Type 0
  CheckErr sound old new Memory = Unit {0}
  CheckErr sound old new e = PagesErr sound old new e
