-- A store's geography, compared with another one.
use Rattle.std.specs.Prelude.{◌≡◌, ℕ, Bool, true, Option, Result, Ok, Err, IfOk, IfErr}
use Rattle.{census_difference.specs.{claim.Differences.DiffersFrom, declared.difference.Difference.Difference}, desk_model.specs.claim.{Desk.Desk, Geography.GeographyModel}}
use Rattle.{desk_store_pages.specs.{Desks.InPagesAs, claim.Openings.LeavesOneAs}, inspect_command.specs.claim.Living.Hinders, page_store.specs.declared.pages.Pages.Pages}
use Rattle.{page_btree.specs.gets.declared.error.TreeError.TreeError, page_store.specs.claim.Transactions.{disk_in, has_halted, IsQuiet}}
use Rattle.{sector_device.specs.declared.SectorDevice.Ghosts, store_command.specs.declared.fault.StoreFault.{StoreFault, TheVariants.{NotAStore, DeviceFault, Memory}}}
use Rattle.store_command.specs.desk_theorem.claim.{Device.OnDevice, OneLife.ReadHolds}
use Rattle.page_btree.specs.gets.declared.error.TreeError.TheVariants as tree

-- What a comparison of a store with this geography came to, where the store has this desk: the difference from it, or none; or the fault
-- for which it was not read, where its device had failed t times before, and u times after it.
abbrev pub IsComparedAs : GeographyModel → Result (Option Difference) StoreFault → (t u : ℕ) → Desk → Type 0
IsComparedAs said (Ok difference) t u d = DiffersFrom d.geography said difference
IsComparedAs said (Err fault) t u d = Hinders fault t u

-- what is told where the geography isn't read
abbrev pub fault_of_tree : TreeError → StoreFault
fault_of_tree tree.DeviceFault = DeviceFault
fault_of_tree tree.NotAStore = NotAStore
fault_of_tree tree.Halted = DeviceFault
fault_of_tree tree.NoPages = NotAStore
fault_of_tree tree.TooDeep = NotAStore
fault_of_tree tree.Memory = Memory

module _ {D : Type 0} {g : Ghosts D} where
  -- why it isn't read of pages: they hold no desk of either version; a failure halted them; or memory was refused
  abbrev pub IsUnread : Pages D g → Pages D g → StoreFault → Type 0
  IsUnread old new NotAStore = (disk_in new).is_honest → (x : Bool × Desk) → InPagesAs old x → ⊥
  IsUnread old new DeviceFault = has_halted new ≡ true
  IsUnread old new Memory = Unit {0}
  IsUnread old new _ = ⊥

  -- pages were only read, and where they hold a desk its geography was compared
  pub record ComparesPages (said : GeographyModel) (old new : Pages D g) (result : Result (Option Difference) StoreFault) : Type 0 where
    pub quiet : IsQuiet old new
    pub compared : (disk_in new).is_honest → (x : Bool × Desk) → InPagesAs old x → IfOk result (λ difference. DiffersFrom x.1.geography said difference)
    pub err : IfErr result (IsUnread old new)

-- A device whose store is compared: at any moment a stop leaves a desk that was there, in its version; this is one life, in which the store
-- was read, and its geography compared so.
pub record ComparesDevice {D : Type 0} (g : Ghosts D) (said : GeographyModel) (device : D) (result : Result (Option Difference) StoreFault) (left : D) : Type 0 where
  pub sectors : (g.disk left).sectors ≡ (g.disk device).sectors
  pub honest : (g.disk left).is_honest → (g.disk device).is_honest
  pub any_moment : LeavesOneAs (g.disk device) (g.disk left)
  pub life : OnDevice (λ t u s e. ReadHolds t u s e × IsComparedAs said result t u s.1) (g.disk device) (g.disk left)
