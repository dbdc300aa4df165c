-- A store that is swept until nothing is left to be taken out.
use Rattle.std.specs.{Prelude.{◌≡◌, ◌⊎◌, ◌≤◌, ◌^◌, ℕ, List, [], ◌∷◌, codes, false, Result, Ok, Err, Vec}, declared.alloc.Global.Global}
use Rattle.{command_output.specs.{claim.Writing.{Written, write_fault_line}, declared.status.Status.Status}, desk_store_pages.specs.declared.error.StoreError.StoreError}
use Rattle.{desk_store_rows.specs.claim.Rows.KeyMap, desk_theorem.specs.{claim.{Device.OnDevice, OneLife.{Asked, RequestsHold}}, lives.declared.desk_lives.Answer.Answer}}
use Rattle.desk_theorem.specs.{lives.declared.desk_lives.{Answer.TheVariants.{Swept, Unswept}, Request.TheVariants.Sweep}, loading.Openings.IsOpened}
use Rattle.desk_theorem.specs.runs.desk_store.{Sweeps.{HasRows, IsClean, SweepRefused}, claim.Clerks.{desk_of, disk_of, is_halted, pages_of, Moves}, declared.clerk.Clerk.Clerk}
use Rattle.{desk_theorem.specs.runs.plan_revisions_sweeps.{Leftovers.IsSweptBy, claim.Checks.AreSoundHoldings}, page_btree.specs.gets.claim.Map.InPages as HoldsRows}
use Rattle.{page_store.specs.claim.Transactions.{device_in, IsQuiet}, sector_device.specs.{claim.Disk.Disk, declared.SectorDevice.Ghosts}, store_command.specs.Telling.EndsStore}
use Rattle.store_command.specs.{Faults.fault_of_store, Filling.{HasDesk, IsNotOpened, WhereItReads}, Reading.{LeavesDesk, ShowsWhatIsRead}, Texts.rows_text, Using.Uses}
use Rattle.store_command.specs.declared.fault.StoreFault.{StoreFault, TheVariants.NotAStore}

-- what is printed of so many rows that were taken out or changed
abbrev pub swept_text : ℕ → List ℕ
swept_text = rows_text (codes "swept ")

module _ {D : Type 0} {g : Ghosts D} where
  -- the same desk is shown and kept, at any moment since then
  pub record KeepsDesk (x : Clerk D g) (y : Clerk D g) : Type 0 where
    pub moves : Moves (desk_of x) x y
    pub desk : desk_of y ≡ desk_of x
    pub loading : y.loading ≡ x.loading

  -- so many of these rows were taken out or changed, in turns that nothing needed, and the others are as they were
  pub record HasTaken (x : Clerk D g) (m : KeyMap) (rows : ℕ) (y : Clerk D g) : Type 0 where
    pub n : KeyMap
    pub has : HasRows y n
    pub by : IsSweptBy x.loading rows m n

  -- and nothing is left over
  pub record HasSweptAll (x : Clerk D g) (m : KeyMap) (rows : ℕ) (y : Clerk D g) : Type 0 where
    pub taken : HasTaken x m rows y
    pub clean : IsClean y taken.n

  -- so many rows were taken out or changed, and nothing is left over
  pub record IsSweptOut (x : Clerk D g) (rows : ℕ) (y : Clerk D g) : Type 0 where
    pub works : is_halted y ≡ false
    pub swept : (disk_of y).is_honest → (m : KeyMap) → HasRows x m → HasSweptAll x m rows y

  -- ---- refusals
  -- a step was refused after those that took rows out
  pub record StepStopped (x : Clerk D g) (e : StoreError) (y : Clerk D g) : Type 0 where
    pub w : Clerk D g
    pub before : KeepsDesk x w
    pub worked : is_halted w ≡ false
    pub last : Moves (desk_of w) w y
    pub why : SweepRefused w e (is_halted y) (pages_of y)

  -- more rows were taken out than a store has
  pub record IsEndless (x : Clerk D g) (y : Clerk D g) : Type 0 where
    pub works : is_halted y ≡ false
    pub rows : ℕ
    pub many : 2 ^ 48 ≤ rows
    pub taken : (disk_of y).is_honest → (m : KeyMap) → HasRows x m → HasTaken x m rows y

  -- a step was refused for this reason; or the device holds what no store has
  abbrev pub IsStopped : Clerk D g → StoreFault → Clerk D g → Type 0
  IsStopped x fault y = ((e : StoreError) × (fault ≡ fault_of_store e) × StepStopped x e y)
      ⊎ ((fault ≡ NotAStore) × IsEndless x y)

  -- what steps of a sweep came to
  abbrev pub SweepsSteps : Clerk D g → Result ℕ StoreFault → Clerk D g → Type 0
  SweepsSteps x (Ok rows) y = IsSweptOut x rows y
  SweepsSteps x (Err fault) y = IsStopped x fault y

  -- Before the first step the rows were read alone: each chunk's count is that of the plans that hold it, and a plan that wasn't taken
  -- away holds what it names.
  pub record IsChecked (x w : Clerk D g) : Type 0 where
    pub keeps : KeepsDesk x w
    pub works : is_halted w ≡ false
    pub quiet : IsQuiet (pages_of x) (pages_of w)
    pub sound : (disk_of w).is_honest → (m : KeyMap) → HoldsRows (pages_of x) m → AreSoundHoldings m

  -- they weren't found so, and nothing was written
  pub record IsUnchecked (x : Clerk D g) (fault : StoreFault) (y : Clerk D g) : Type 0 where
    pub e : StoreError
    pub told : fault ≡ fault_of_store e
    pub quiet : IsQuiet (pages_of x) (pages_of y)
    pub why : SweepRefused x e (is_halted y) (pages_of y)

  -- what a sweep at a clerk came to
  abbrev pub SweepsAll : Clerk D g → Result ℕ StoreFault → Clerk D g → Type 0
  SweepsAll x (Ok rows) y = (w : Clerk D g) × IsChecked x w × IsSweptOut w rows y
  SweepsAll x (Err fault) y = IsUnchecked x fault y ⊎ ((w : Clerk D g) × IsChecked x w × IsStopped w fault y)

-- one life, in which one sweep was answered so
abbrev pub SweptOnce : (old new : Disk) → Answer → Type 0
SweptOnce old new a = OnDevice (Asked (RequestsHold (Sweep ∷ []) (a ∷ []))) old new

-- so it was by what it came to; a sweep that took out more rows than a store has was given up
abbrev pub SweptLife : (old new : Disk) → Result ℕ StoreFault → Type 0
SweptLife old new (Ok rows) = SweptOnce old new (Swept rows)
SweptLife old new (Err fault) = ((e : StoreError) × (fault ≡ fault_of_store e) × SweptOnce old new (Unswept e))
    ⊎ ((fault ≡ NotAStore) × ((rows : ℕ) × (2 ^ 48 ≤ rows) × SweptOnce old new (Swept rows)))

module _ {D : Type 0} (g : Ghosts D) where
  -- The device was opened, and the clerk swept it and gave it back so. Where it read as a desk, a stop at any moment of both left this
  -- desk; and where no fault came, what it leaves from then on opens to it.
  pub record HasSwept (device : D) (swept : Result ℕ StoreFault) (left : D) : Type 0 where
    pub x : Clerk D g
    pub opened : IsOpened device x
    pub shows : ShowsWhatIsRead device x
    pub y : Clerk D g
    pub keeps : KeepsDesk x y
    pub sweeps : SweepsAll x swept y
    pub back : left ≡ device_in (pages_of y)
    pub any_moment : WhereItReads (g.disk device) (g.disk left) (λ d. LeavesDesk (g.disk device) (g.disk left) d)
    pub after : is_halted y ≡ false → WhereItReads (g.disk device) (g.disk left) (λ d. HasDesk (g.disk device) (g.disk left) d)
    pub life : SweptLife (g.disk device) (g.disk left) swept

  -- what became of the device: it isn't opened, or it was swept
  abbrev pub SweepsDevice : D → Result ℕ StoreFault → D → Type 0
  SweepsDevice device (Ok rows) left = HasSwept device (Ok rows) left
  SweepsDevice device (Err fault) left = IsNotOpened g device fault left ⊎ HasSwept device (Err fault) left

module _ {D O : Type 0} (g : Ghosts D) (opens : O → List ℕ → Result D StoreFault → O → Type 0) (closes : O → D → O → Type 0) where
  -- what comes of a store, with the text that is printed; where memory is refused before, none is opened
  abbrev pub Sweeps : (before : O) → List ℕ → Result (Vec ℕ Global) StoreFault → (after : O) → Type 0
  Sweeps = Uses opens closes (SweepsDevice g) swept_text

  -- the store of the name, whose rows that were left over are taken out
  abbrev pub SweepsStore : (stores stores_after : O) → List ℕ → Status → (before after told_before told_after : Written) → Type 0
  SweepsStore stores stores_after name status before after told_before told_after = (given : Result (Vec ℕ Global) StoreFault)
      × Sweeps stores name given stores_after × EndsStore (write_fault_line (codes "sweep")) given status before after told_before told_after
