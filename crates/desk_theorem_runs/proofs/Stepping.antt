-- A step of a sweep, by what the clerk says of it.
use Rattle.{std.proofs.Common.{◌≡◌, ◌≤◌, Bool, true, false, rules}, desk_store.specs.claim.Clerks.{desk_of, disk_of, free_of, pages_of, HaltsByDevice, Keeps, Moves}}
use Rattle.{desk_store.specs.{declared.clerk.Clerk.Clerk, plan_revisions_sweeps.claim.Checks.AreSoundHoldings}, desk_store_rows.specs.claim.Rows.KeyMap}
use Rattle.{desk_theorem_runs.specs.claim.SweptRuns.Tends, page_btree.specs.gets.claim.Map.InPages as HoldsRows, page_store.specs.claim.Transactions.IsQuiet}
use Rattle.sector_device.specs.declared.SectorDevice.{Ghosts}

module _ {D : Type 0} {g : Ghosts D} where
  pub step_tends : (x y : Clerk D g) → Moves (desk_of x) x y → desk_of y ≡ desk_of x → y.loading ≡ x.loading → (Keeps x → (disk_of y).is_honest → y.halted ≡ false → free_of x ≤ free_of y) → HaltsByDevice x y → Tends true x true y
  step_tends x y moves desk loading free device = search rules

  pub check_tends : (x y : Clerk D g) (is : Bool) → Moves (desk_of x) x y → desk_of y ≡ desk_of x → y.loading ≡ x.loading → IsQuiet (pages_of x) (pages_of y)
      → (is ≡ true → (disk_of y).is_honest → (m : KeyMap) → HoldsRows (pages_of x) m → AreSoundHoldings m) → Tends false x is y
  check_tends x y is moves desk loading quiet sound = search rules
