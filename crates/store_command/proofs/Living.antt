-- What a run of a command is for the store that it opened.
use Rattle.std.{specs.{Prelude.{codes, Result, Ok, Err, Vec}, declared.alloc.Global.Global}, proofs.Common.{◌≡◌, ◌⊎◌, ℕ, List, [], ◌∷◌, inl, inr, ⊎_elim, sym, subst}}
use Rattle.{command_output.specs.{claim.Writing.{Written, write_fault_line}, declared.status.Status.Status}, desk_model.specs.claim.Geography.GeographyModel}
use Rattle.desk_theorem.specs.{claim.{Device.OnDevice, InFile.LivedOn, OneLife.{Asked, LedHolds, RequestsHold, UnopenedHolds}}, lives.claim.Versions.Store}
use Rattle.desk_theorem.specs.lives.declared.{desk_lives.{Answer.{Answer, TheVariants.{Loaded, Swept, Unloaded, Unswept}}, Request.TheVariants.{Load, Sweep}}, leading.Led.Led}
use Rattle.{sector_device.specs.declared.SectorDevice.Ghosts, store_command.specs.{Filling.{FillsDevice, IsNotOpened, LoadedOnce}, Loading.{Fills, Loads}, Telling.EndsStore}}
use Rattle.store_command.specs.{Migrating.{MigratesStore, StoppedLife}, Sweeping.{SweepsStore, SweptLife, SweptOnce}, claim.Files.{Openings, ReadsGeography}}
use Rattle.store_command.specs.claim.Living.{Bars, IsPrinted, IsRefused, LoadLived, LoadsLife, MigratesLife, OpensNone, SweepLived, SweepsLife}
use Rattle.store_command.specs.declared.fault.StoreFault.{StoreFault}
use Rattle.desk_theorem.specs.lives.declared.leading.Led.TheVariants as led
use Rattle.store_command.specs.declared.fault.StoreFault.TheVariants as fault

-- what is told of a fault is told of the error that it stands for
pub told_for : {f g : StoreFault} (end : Status) (old new told_old told_new : Written) → f ≡ g → IsRefused f end old new told_old told_new → IsRefused g end old new told_old told_new
told_for end old new told_old told_new same is = subst (λ (h : StoreFault). IsRefused h end old new told_old told_new) same is

pub printed : (command : List ℕ) {a b : List ℕ} (end : Status) (old new told_old told_new : Written) → a ≡ b → IsPrinted command a end old new told_old told_new → IsPrinted command b end old new told_old told_new
printed command end old new told_old told_new same is = subst (λ (l : List ℕ). IsPrinted command l end old new told_old told_new) same is

-- ---- what a command opens, and what is known of it
module _ {D O : Type 0} (g : Ghosts D) (opens : O → List ℕ → Result D StoreFault → O → Type 0) (closes : O → D → O → Type 0) (opened : D → Type 0) (none : O → Type 0) (tells : (before : O) (name : List ℕ) (d : D) (after : O) → opens before name (Ok d) after → opened d) (refuses : (before : O) (name : List ℕ) (f : StoreFault) (after : O) → opens before name (Err f) after → none before → none after) where
  pub lived_on : (life : (t u : ℕ) → Store → Store → Type 0) (before : O) (name : List ℕ) (device left : D) (middle : O) → opens before name (Ok device) middle → OnDevice life (g.disk device) (g.disk left) → LivedOn g opened life
  lived_on life before name device left middle is lived = record { old = device; new = left; was = tells before name device middle is; lived = lived }

  -- ---- one command, by what it came to
  module _ (stores after : O) (fresh : none stores) (name : List ℕ) (end : Status) (old new told_old told_new : Written) where
    -- a store that was refused
    pub barred : (f : StoreFault) → IsRefused f end old new told_old told_new → (device left : D) (middle : O) → opens stores name (Ok device) middle → IsNotOpened g device f left → Bars g opened (none after) end old new told_old told_new
    barred f is device left middle given not = record { why = not.error; told = told_for end old new told_old told_new not.told is; life = lived_on (UnopenedHolds not.error) stores name device left middle given not.life }

    pub none_opened : (f : StoreFault) → IsRefused f end old new told_old told_new → ((f ≡ fault.Memory) × (after ≡ stores)) ⊎ opens stores name (Err f) after → OpensNone g opened (none after) end old new told_old told_new
    none_opened f is (inl same) = record { none_opened = subst none (sym same.1) fresh; fault = f; told = is }
    none_opened f is (inr refused) = record { none_opened = refuses stores name f after refused fresh; fault = f; told = is }

    load_lived : (area : GeographyModel) (a : Answer) (device left : D) (middle : O) → opens stores name (Ok device) middle → LoadedOnce (g.disk device) (g.disk left) area a → LoadLived g opened (none after) end area a
    load_lived area a device left middle given life = (life.0, life.1, lived_on (Asked (RequestsHold (Load life.0 ∷ []) (a ∷ []))) stores name device left middle given life.2)

    sweep_lived : (a : Answer) (device left : D) (middle : O) → opens stores name (Ok device) middle → SweptOnce (g.disk device) (g.disk left) a → SweepLived g opened (none after) end a
    sweep_lived a device left middle given life = lived_on (Asked (RequestsHold (Sweep ∷ []) (a ∷ []))) stores name device left middle given life

    -- ---- loads
    unfilled : (files files_left : Openings) (area : GeographyModel) → ReadsGeography files files_left (Ok area) → (f : StoreFault) → IsRefused f end old new told_old told_new → (device left : D) (middle : O) → opens stores name (Ok device) middle → FillsDevice g device area (Err f) left
        → LoadsLife g opened (none after) end files files_left old new told_old told_new
    unfilled files files_left area read f is device left middle given (inl not) = LoadsLife.barred area read (barred f is device left middle given not)
    unfilled files files_left area read f is device left middle given (inr un) =
        LoadsLife.unloaded area read un.error (told_for end old new told_old told_new un.told is) (load_lived area (Unloaded un.error) device left middle given un.kept.life)

    filled : (files files_left : Openings) (area : GeographyModel) → ReadsGeography files files_left (Ok area) → (given : Result (Vec ℕ Global) StoreFault) → Fills g opens closes stores name area given after
        → EndsStore (write_fault_line (codes "load")) given end old new told_old told_new → LoadsLife g opened (none after) end files files_left old new told_old told_new
    filled files files_left area read (Ok text) fills ends =
        let used = fills.2 in
        LoadsLife.loaded area read text.items ends (load_lived area Loaded used.device used.left used.middle used.opened used.became.life)
    filled files files_left area read (Err f) (inl same) ends = LoadsLife.not_opened area read (none_opened f ends (inl same))
    filled files files_left area read (Err f) (inr (inl refused)) ends = LoadsLife.not_opened area read (none_opened f ends (inr refused))
    filled files files_left area read (Err f) (inr (inr used)) ends = unfilled files files_left area read f ends used.device used.left used.middle used.opened used.became

    pub loads_life : (files files_left : Openings) → Loads g opens closes files files_left stores after name end old new told_old told_new → LoadsLife g opened (none after) end files files_left old new told_old told_new
    loads_life files files_left (Ok area, read, (given, fills, ends)) = filled files files_left area read given fills ends
    loads_life files files_left (Err f, read, (untouched, quiet, told)) = LoadsLife.not_read f read quiet told (subst none (sym untouched) fresh)

    -- ---- sweeps
    unswept : (f : StoreFault) → IsRefused f end old new told_old told_new → (device left : D) (middle : O) → opens stores name (Ok device) middle → SweptLife (g.disk device) (g.disk left) (Err f) → SweepsLife g opened (none after) end old new told_old told_new
    unswept f is device left middle given (inl stop) = SweepsLife.unswept stop.0 (told_for end old new told_old told_new stop.1 is) (sweep_lived (Unswept stop.0) device left middle given stop.2)
    unswept f is device left middle given (inr more) = SweepsLife.endless more.1.0 more.1.1 (told_for end old new told_old told_new more.0 is) (sweep_lived (Swept more.1.0) device left middle given more.1.2)

    pub sweeps_life : SweepsStore g opens closes stores after name end old new told_old told_new → SweepsLife g opened (none after) end old new told_old told_new
    sweeps_life (Ok text, (rows, is, used), ends) =
        SweepsLife.swept rows (printed (codes "sweep") end old new told_old told_new is ends) (sweep_lived (Swept rows) used.device used.left used.middle used.opened used.became.life)
    sweeps_life (Err f, inl same, ends) = SweepsLife.not_opened (none_opened f ends (inl same))
    sweeps_life (Err f, inr (inl refused), ends) = SweepsLife.not_opened (none_opened f ends (inr refused))
    sweeps_life (Err f, inr (inr used), ends) =
        ⊎_elim
        (λ not. SweepsLife.barred (barred f ends used.device used.left used.middle used.opened not))
        (λ has. unswept f ends used.device used.left used.middle used.opened has.life)
        used.became

    -- ---- migrations
    led_lived : (far : Led) (device left : D) (middle : O) → opens stores name (Ok device) middle → OnDevice (LedHolds far) (g.disk device) (g.disk left) → LivedOn g opened (LedHolds far)
    led_lived far device left middle given life = lived_on (LedHolds far) stores name device left middle given life

    unled : (f : StoreFault) → IsRefused f end old new told_old told_new → (device left : D) (middle : O) → opens stores name (Ok device) middle → StoppedLife (g.disk device) (g.disk left) f → MigratesLife g opened (none after) end old new told_old told_new
    unled f is device left middle given (inl stop) = MigratesLife.stopped stop.0 (told_for end old new told_old told_new stop.1 is) (led_lived (led.Stopped stop.0) device left middle given stop.2)
    unled f is device left middle given (inr more) = MigratesLife.endless more.1.0 more.1.1 (told_for end old new told_old told_new more.0 is) (led_lived led.InPart device left middle given more.1.2)

    pub migrates_life : MigratesStore g opens closes stores after name end old new told_old told_new → MigratesLife g opened (none after) end old new told_old told_new
    migrates_life (Ok text, (rows, is, used), ends) =
        MigratesLife.whole rows (printed (codes "migrate") end old new told_old told_new is ends) (led_lived led.Whole used.device used.left used.middle used.opened used.became.life)
    migrates_life (Err f, inl same, ends) = MigratesLife.not_opened (none_opened f ends (inl same))
    migrates_life (Err f, inr (inl refused), ends) = MigratesLife.not_opened (none_opened f ends (inr refused))
    migrates_life (Err f, inr (inr used), ends) =
        ⊎_elim
        (λ not. MigratesLife.barred not.error (told_for end old new told_old told_new not.told ends) (led_lived (led.Unopened not.error) used.device used.left used.middle used.opened not.life))
        (λ has. unled f ends used.device used.left used.middle used.opened has.life)
        used.became
