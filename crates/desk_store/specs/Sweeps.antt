-- Sweeps at a clerk.
use Rattle.std.specs.Prelude.{◌≡◌, ◌<◌, ℕ, Bool, true, false, Result, OnOk, IfErr}
use Rattle.{desk_store.specs.{claim.Clerks.{desk_of, pages_of, Moves}, declared.clerk.Clerk.Clerk}, desk_store_pages.specs.claim.Desks.{IsDeskMap, InPages}}
use Rattle.{desk_store_opening.specs.plan_revisions.sweeps.Leftovers.{IsSweptBy, IsSweptClean}, desk_store_pages.specs.declared.error.StoreError.StoreError}
use Rattle.{desk_store_pages.specs.declared.error.StoreError.TheVariants.{Memory, NotAStore, DeviceFault, Halted}, desk_store_rows.specs.claim.Rows.KeyMap}
use Rattle.{page_btree.specs.gets.claim.Map.InPages as HoldsRows, page_store.specs.{claim.Transactions.{disk_in, IsQuiet}, declared.pages.Pages.Pages}}
use Rattle.sector_device.specs.declared.SectorDevice.{Ghosts}

module _ {D : Type 0} {g : Ghosts D} where
  -- the store holds these rows, which are those of the desk that is shown
  pub record HasRows (x : Clerk D g) (m : KeyMap) : Type 0 where
    pub holds : HoldsRows (pages_of x) m
    pub is : IsDeskMap m (desk_of x)

  -- No row is left of a plan that was taken away, nor of a load but the one that was begun last since the opening.
  abbrev pub IsClean : Clerk D g → KeyMap → Type 0
  IsClean x m = IsSweptClean x.loading m

  -- so many of these rows that were left over were taken out or changed, and none of that load; fewer than 15 only where no other was left
  pub record HasSwept (x : Clerk D g) (m : KeyMap) (count : ℕ) (y : Clerk D g) : Type 0 where
    pub n : KeyMap
    pub has : HasRows y n
    pub by : IsSweptBy x.loading count m n
    pub clean : count < 15 → IsClean y n

  -- why nothing is swept
  abbrev pub SweepRefused : Clerk D g → StoreError → Bool → Pages D g → Type 0
  SweepRefused x Memory halted b = (halted ≡ false) × IsQuiet (pages_of x) b
  SweepRefused x NotAStore halted b = (x.halted ≡ false) × (halted ≡ false) × IsQuiet (pages_of x) b × ((disk_in b).is_honest → InPages (pages_of x) (desk_of x) → ⊥)
  SweepRefused x DeviceFault halted b = (x.halted ≡ false) × (halted ≡ true)
  SweepRefused x Halted halted b = x.halted ≡ true
  SweepRefused x _ halted b = ⊥

  -- A call that keeps a store in order changes neither the desk nor the load; each of its moves shows that desk.
  pub record Maintains {A : Type 0} (x y : Clerk D g) (result : Result A StoreError) : Type 0 where
    pub moves : Moves (desk_of x) x y
    pub desk : desk_of y ≡ desk_of x
    pub loading : y.loading ≡ x.loading
    pub working : OnOk result ((x.halted ≡ false) × (y.halted ≡ false))
    pub err : IfErr result (λ e. SweepRefused x e y.halted (pages_of y))
