-- A store that is filled with a geography.
use Rattle.std.specs.{Prelude.{◌≡◌, ◌⊎◌, ℕ, false, [], ◌∷◌, Result, Ok, Err}, declared.{alloc.Global.Global, sync.Arc.Arc}}
use Rattle.{desk_model.specs.claim.{Desk.Desk, Geography.GeographyModel}, desk_store_pages.specs.{claim.Desks.OpensDesk, declared.error.StoreError.StoreError}}
use Rattle.desk_theorem.specs.{claim.{Device.OnDevice, OneLife.{Asked, RequestsHold, UnopenedHolds}}, lives.declared.desk_lives.Answer.{Answer, TheVariants.{Loaded, Unloaded}}}
use Rattle.desk_theorem.specs.{lives.declared.desk_lives.Request.TheVariants.Load, loading.{Loads.{IsLoaded, LoadRefused}, Openings.{IsOpened, IsUnopened}}}
use Rattle.desk_theorem.specs.runs.desk_store.{Keeping.sealed_desk, claim.Clerks.{desk_of, is_halted, pages_of}, declared.clerk.Clerk.Clerk}
use Rattle.{page_store.specs.claim.Transactions.device_in, sector_device.specs.{claim.{Disk.{Disk, Image}, Moments.LeavesOnly}, declared.SectorDevice.Ghosts}}
use Rattle.store_command.specs.{Faults.fault_of_store, Reading.{ReadsDesk, RefusesWhatIsRead, ShowsWhatIsRead}, declared.fault.StoreFault.StoreFault}

-- the image opens to the desk, or to the next one
abbrev pub OpensOr : ℕ → (d next : Desk) → Image → Type 0
OpensOr sectors d next c = OpensDesk sectors d c ⊎ OpensDesk sectors next c

-- each image that a stop may leave now opens to the desk
abbrev pub HasDesk : (old new : Disk) → Desk → Type 0
HasDesk old new d = (c : Image) → new.leaves c → OpensDesk old.sectors d c

-- Of what a device reads: this, where it reads as a desk, and is found honest after that.
abbrev pub WhereItReads : (old new : Disk) → (Desk → Type 0) → Type 0
WhereItReads old new P = new.is_honest → (d : Desk) → ReadsDesk old d → P d

-- one life, in which one load of this geography was answered so
abbrev pub LoadedOnce : (old new : Disk) → GeographyModel → Answer → Type 0
LoadedOnce old new area a = (arc : Arc GeographyModel Global) × (arc.value ≡ area) × OnDevice (Asked (RequestsHold (Load arc ∷ []) (a ∷ []))) old new

module _ {D : Type 0} (g : Ghosts D) where
  -- The device was opened, and the clerk loaded the geography where none was sealed and gave it back so. Where the device read as a
  -- desk, a stop at any moment of both left this desk, or that with this geography and no plan; and what it leaves from then on
  -- opens to that.
  pub record HasLoaded (device : D) (area : GeographyModel) (left : D) : Type 0 where
    pub x : Clerk D g
    pub opened : IsOpened device x
    pub shows : ShowsWhatIsRead device x
    pub y : Clerk D g
    pub loaded : IsLoaded x area y
    pub back : left ≡ device_in (pages_of y)
    pub any_moment : WhereItReads (g.disk device) (g.disk left)
        (λ d. LeavesOnly (OpensOr (g.disk device).sectors d (sealed_desk area)) (g.disk device) (g.disk left))
    pub after : WhereItReads (g.disk device) (g.disk left) (λ d. HasDesk (g.disk device) (g.disk left) (sealed_desk area))
    pub life : LoadedOnce (g.disk device) (g.disk left) area Loaded

  -- The device was opened, and a load that was refused left the desk. Where no fault came, what a stop leaves from then on opens
  -- to it.
  pub record HasKept (device : D) (area : GeographyModel) (e : StoreError) (left : D) : Type 0 where
    pub x : Clerk D g
    pub opened : IsOpened device x
    pub shows : ShowsWhatIsRead device x
    pub y : Clerk D g
    pub why : LoadRefused x area e y
    pub desk : desk_of y ≡ desk_of x
    pub back : left ≡ device_in (pages_of y)
    pub any_moment : WhereItReads (g.disk device) (g.disk left)
        (λ d. LeavesOnly (OpensOr (g.disk device).sectors d (sealed_desk area)) (g.disk device) (g.disk left))
    pub after : is_halted y ≡ false → WhereItReads (g.disk device) (g.disk left) (λ d. HasDesk (g.disk device) (g.disk left) d)
    pub life : LoadedOnce (g.disk device) (g.disk left) area (Unloaded e)

  -- the device isn't opened, and is left so
  pub record IsNotOpened (device : D) (fault : StoreFault) (left : D) : Type 0 where
    pub error : StoreError
    pub told : fault ≡ fault_of_store error
    pub why : IsUnopened g device error left
    pub refuses : (g.disk left).is_honest → RefusesWhatIsRead (g.disk device) (g.disk left) error
    pub life : OnDevice (UnopenedHolds error) (g.disk device) (g.disk left)

  -- or the geography isn't loaded
  pub record IsUnloaded (device : D) (area : GeographyModel) (fault : StoreFault) (left : D) : Type 0 where
    pub error : StoreError
    pub told : fault ≡ fault_of_store error
    pub kept : HasKept device area error left

  -- what became of the device
  abbrev pub FillsDevice : D → GeographyModel → Result (Unit {0}) StoreFault → D → Type 0
  FillsDevice device area (Ok u) left = HasLoaded device area left
  FillsDevice device area (Err fault) left = IsNotOpened device fault left ⊎ IsUnloaded device area fault left
