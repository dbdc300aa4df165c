-- A store of which is told how full it is.
use Rattle.std.specs.{Prelude.{◌≡◌, ◌⊎◌, ◌<◌, ℕ, List, [], codes, Result, Ok, Err, Vec}, declared.alloc.Global.Global}
use Rattle.{command_output.specs.{claim.Writing.{Written, write_fault_line}, declared.status.Status.Status}, inspect_command.specs.{Figures.AreHeld, Rows.CountsRows}}
use Rattle.inspect_command.specs.{Texts.figures_text, claim.Living.{Hinders, IsOfDesk}, declared.{figures.{Figures.Figures, Held.Held}, rows.Rows.Rows, texts.Style.Style}}
use Rattle.{page_store.specs.claim.Transactions.device_in, sector_device.specs.declared.SectorDevice.Ghosts, store_command.specs.Filling.{IsNotOpened, WhereItReads}}
use Rattle.store_command.specs.{Reading.{LeavesDesk, ShowsWhatIsRead}, Telling.EndsStore, declared.fault.StoreFault.{StoreFault, TheVariants.{NotAStore, DeviceFault, Memory}}}
use Rattle.store_command.specs.{desk_store.{claim.Clerks.{disk_of, pages_of}, declared.clerk.Clerk.Clerk}, desk_theorem.claim.{Device.OnDevice, OneLife.{Asked, RequestsHold}}}
use Rattle.store_command.specs.desk_theorem_loading.Openings.{IsOpened}

-- the figures, where both parts of them were found
abbrev pub joined : ℕ → Result Held StoreFault → Result Rows StoreFault → Result Figures StoreFault
joined sectors (Ok held) (Ok rows) = Ok (record { sectors = sectors; held = held; rows = rows })
joined sectors (Ok held) (Err fault) = Err fault
joined sectors (Err fault) counted = Err fault

module _ {D : Type 0} (g : Ghosts D) where
  -- The device was opened by a clerk, and then by its rows alone. Where it read as a desk, the clerk shows this desk, and a stop at any
  -- moment of both, and from then on, leaves it. So this is one life, in which nothing is asked.
  pub record IsLookedAt (device : D) (x : Clerk D g) (left : D) : Type 0 where
    pub opened : IsOpened device x
    pub shows : ShowsWhatIsRead device x
    pub sectors : (g.disk left).sectors ≡ (g.disk device).sectors
    pub honest : (g.disk left).is_honest → (disk_of x).is_honest
    pub any_moment : WhereItReads (g.disk device) (g.disk left) (λ d. LeavesDesk (g.disk device) (g.disk left) d)
    pub life : OnDevice (Asked (RequestsHold [] [])) (g.disk device) (g.disk left)

  -- and the figures are what the clerk tells, and the rows that are counted
  pub record HasFigures (device : D) (figures : Figures) (left : D) : Type 0 where
    pub x : Clerk D g
    pub looked : IsLookedAt device x left
    pub sectors : figures.sectors ≡ (g.disk device).sectors
    pub held : AreHeld x figures.held
    pub rows : CountsRows g (device_in (pages_of x)) figures.rows left
    pub life : OnDevice (λ t u s e. Asked (RequestsHold [] []) t u s e × IsOfDesk s.1 figures.held) (g.disk device) (g.disk left)

  -- or memory was refused; the device failed; or it read as no desk
  pub record HasNoFigures (device : D) (fault : StoreFault) (left : D) : Type 0 where
    pub x : Clerk D g
    pub looked : IsLookedAt device x left
    pub told : (fault ≡ Memory)
        ⊎ (((fault ≡ DeviceFault) × ((g.disk left).is_honest → (g.disk device).faults < (g.disk left).faults))
        ⊎ ((fault ≡ NotAStore) × WhereItReads (g.disk device) (g.disk left) (λ d. ⊥)))
    pub life : OnDevice (λ t u s e. Asked (RequestsHold [] []) t u s e × Hinders fault t u) (g.disk device) (g.disk left)

  -- what came of the device: it isn't opened, or its figures are told
  abbrev pub StatsDevice : D → Result Figures StoreFault → D → Type 0
  StatsDevice device (Ok figures) left = HasFigures device figures left
  StatsDevice device (Err fault) left = IsNotOpened g device fault left ⊎ HasNoFigures device fault left

module _ {D O : Type 0} (g : Ghosts D) (opens : O → List ℕ → Result D StoreFault → O → Type 0) (closes : O → D → O → Type 0) (style : Style) where
  -- the device of the name was opened, and closed as it was left
  pub record IsStated (before : O) (name : List ℕ) (told : Result Figures StoreFault) (after : O) : Type 0 where
    pub device : D
    pub middle : O
    pub opened : opens before name (Ok device) middle
    pub left : D
    pub stats : StatsDevice g device told left
    pub closed : closes middle left after

  -- the figures were there, and memory for their text was refused
  abbrev pub IsUnprinted : (before : O) → List ℕ → StoreFault → (after : O) → Type 0
  IsUnprinted before name fault after = (fault ≡ Memory) × ((figures : Figures) × IsStated before name (Ok figures) after)

  -- what comes of a store, with the text that is printed; where memory is refused before, none is opened
  abbrev pub Stats : (before : O) → List ℕ → Result (Vec ℕ Global) StoreFault → (after : O) → Type 0
  Stats before name (Ok text) after = (figures : Figures) × (text.items ≡ figures_text style figures) × IsStated before name (Ok figures) after
  Stats before name (Err fault) after = ((fault ≡ Memory) × (after ≡ before))
      ⊎ (opens before name (Err fault) after ⊎ (IsStated before name (Err fault) after ⊎ IsUnprinted before name fault after))

  -- and how that ended
  abbrev pub StatsStore : (stores stores_after : O) → List ℕ → Status → (before after told_before told_after : Written) → Type 0
  StatsStore stores stores_after name status before after told_before told_after = (given : Result (Vec ℕ Global) StoreFault)
      × Stats stores name given stores_after × EndsStore (write_fault_line (codes "stat")) given status before after told_before told_after
