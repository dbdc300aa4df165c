-- What a command makes of the store that it opens: one life of it, on the device that was opened for it. The exit status
-- goes with that, and what is printed and told.
use Rattle.std.specs.{Prelude.{◌≡◌, ◌≤◌, ◌^◌, ℕ, List, [], ◌∷◌, codes, Ok, Err}, declared.{alloc.Global.Global, sync.Arc.Arc}}
use Rattle.{command_output.specs.{claim.{Telling.Tells, Writing.{Prints, Written, write_fault_line}}, declared.status.Status.Status}, desk_theorem.specs.claim.InFile.LivedOn}
use Rattle.{desk_model.specs.claim.Geography.GeographyModel, desk_store_pages.specs.declared.error.StoreError.StoreError, sector_device.specs.declared.SectorDevice.Ghosts}
use Rattle.desk_theorem.specs.{claim.OneLife.{Asked, LedHolds, RequestsHold, UnopenedHolds}, lives.declared.desk_lives.{Answer.Answer, Request.TheVariants.{Load, Sweep}}}
use Rattle.{desk_theorem.specs.lives.declared.desk_lives.Answer.TheVariants.{Loaded, Swept, Unloaded, Unswept}, state_files.specs.declared.fault.FileFault.FileFault}
use Rattle.store_command.specs.{claim.{Faults.fault_of_store, Files.{Openings, ReadsGeography}, Telling.{TellsStore, rows_text}}, declared.fault.StoreFault.StoreFault}
use Rattle.store_command.specs.declared.fault.StoreFault.TheVariants.{NotAStore}
use Rattle.command_output.specs.declared.status.Status.TheVariants as status
use Rattle.desk_theorem.specs.lives.declared.leading.Led.TheVariants as led

-- ---- what is printed and told, and the status that goes with that
-- the text, and the status is 0; or standard output failed once more, which the status and a line tell
abbrev pub IsPrinted : (command text : List ℕ) → Status → (old new told_old told_new : Written) → Type 0
IsPrinted command text end old new told_old told_new = Prints (write_fault_line command) text status.Done end old new told_old told_new

-- nothing is printed, and this fault of a store is told
abbrev pub IsRefused : StoreFault → Status → (old new told_old told_new : Written) → Type 0
IsRefused fault end old new told_old told_new = (new ≡ old) × TellsStore fault end told_old told_new

-- `opened` says how the device of a store was opened, and `none` that none was
module _ {D : Type 0} (g : Ghosts D) (opened : D → Type 0) (none : Type 0) (end : Status) where
  -- a device was opened, its store was refused for this, and is as it was
  pub record Bars (old new told_old told_new : Written) : Type 0 where
    pub why : StoreError
    pub told : IsRefused (fault_of_store why) end old new told_old told_new
    pub life : LivedOn g opened (UnopenedHolds why)

  -- no device was opened, for what is told
  pub record OpensNone (old new told_old told_new : Written) : Type 0 where
    pub none_opened : none
    pub fault : StoreFault
    pub told : IsRefused fault end old new told_old told_new

  -- ---- a load
  -- one life, in which one load of this geography was answered so
  abbrev pub LoadLived : GeographyModel → Answer → Type 0
  LoadLived area a = (arc : Arc GeographyModel Global) × (arc.value ≡ area) × LivedOn g opened (Asked (RequestsHold (Load arc ∷ []) (a ∷ [])))

  -- files that were refused touch no store, and their fault is told
  pub data LoadsLife (files left : Openings) (old new told_old told_new : Written) : Type 0 where
    loaded : (area : GeographyModel) → ReadsGeography files left (Ok area) → (text : List ℕ) → IsPrinted (codes "load") text end old new told_old told_new
        → LoadLived area Loaded → LoadsLife files left old new told_old told_new
    unloaded : (area : GeographyModel) → ReadsGeography files left (Ok area) → (why : StoreError) → IsRefused (fault_of_store why) end old new told_old told_new
        → LoadLived area (Unloaded why) → LoadsLife files left old new told_old told_new
    barred : (area : GeographyModel) → ReadsGeography files left (Ok area) → Bars old new told_old told_new → LoadsLife files left old new told_old told_new
    not_opened : (area : GeographyModel) → ReadsGeography files left (Ok area) → OpensNone old new told_old told_new → LoadsLife files left old new told_old told_new
    not_read : (fault : FileFault) → ReadsGeography files left (Err fault) → new ≡ old → Tells fault end told_old told_new → none
        → LoadsLife files left old new told_old told_new

  -- ---- a sweep
  -- one life, in which one sweep was answered so
  abbrev pub SweepLived : Answer → Type 0
  SweepLived a = LivedOn g opened (Asked (RequestsHold (Sweep ∷ []) (a ∷ [])))

  -- a sweep is given up after more rows than a store has
  pub data SweepsLife (old new told_old told_new : Written) : Type 0 where
    swept : (rows : ℕ) → IsPrinted (codes "sweep") (rows_text (codes "swept ") rows) end old new told_old told_new → SweepLived (Swept rows)
        → SweepsLife old new told_old told_new
    unswept : (why : StoreError) → IsRefused (fault_of_store why) end old new told_old told_new → SweepLived (Unswept why) → SweepsLife old new told_old told_new
    endless : (rows : ℕ) → 2 ^ 48 ≤ rows → IsRefused NotAStore end old new told_old told_new → SweepLived (Swept rows) → SweepsLife old new told_old told_new
    barred : Bars old new told_old told_new → SweepsLife old new told_old told_new
    not_opened : OpensNone old new told_old told_new → SweepsLife old new told_old told_new

  -- ---- a migration
  pub data MigratesLife (old new told_old told_new : Written) : Type 0 where
    whole : (rows : ℕ) → IsPrinted (codes "migrate") (rows_text (codes "migrated to version 2, ") rows) end old new told_old told_new
        → LivedOn g opened (LedHolds led.Whole) → MigratesLife old new told_old told_new
    stopped : (why : StoreError) → IsRefused (fault_of_store why) end old new told_old told_new → LivedOn g opened (LedHolds (led.Stopped why))
        → MigratesLife old new told_old told_new
    endless : (rows : ℕ) → 2 ^ 48 ≤ rows → IsRefused NotAStore end old new told_old told_new → LivedOn g opened (LedHolds led.InPart)
        → MigratesLife old new told_old told_new
    barred : (why : StoreError) → IsRefused (fault_of_store why) end old new told_old told_new → LivedOn g opened (LedHolds (led.Unopened why))
        → MigratesLife old new told_old told_new
    not_opened : OpensNone old new told_old told_new → MigratesLife old new told_old told_new
