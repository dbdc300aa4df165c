-- A store that was led on: one life on its device.
use Rattle.{std.{specs.Prelude.Err, proofs.Common.{◌≡◌, ℕ, false, inl, inr, refl, ◌≢◌, ◌≤◌}}, desk_store_pages.specs.claim.Openings.LeavesOneAs}
use Rattle.{desk_store_pages.specs.declared.error.StoreError.{StoreError, TheVariants.{AlreadyNew, DeviceFault}}, desk_theorem.specs.claim.{Device.OnDevice, OneLife.LedHolds}}
use Rattle.desk_theorem.{specs.{lives.{VersionInside.{IsLed, LeadsOn, StepsOn}, declared.leading.Led.Led}, runs.Recovery.ImagesAreOne}, proofs.Device.on_device}
use Rattle.desk_theorem.specs.runs.desk_migration.{Openings.{IsRefused, LeavesNew}, claim.Migrating.{disk_of, is_halted, Moves}, declared.migration.Migration.Migration}
use Rattle.{sector_device.specs.declared.SectorDevice.Ghosts, store_command.specs.Migrating.{EndStopped, IsBegun, IsMigrated, MigratesAll, StepStopped, StoppedLife}}
use Rattle.{store_command.specs.declared.fault.StoreFault.StoreFault, desk_theorem.proofs.OneLife.led_holds}
use Rattle.store_command.proofs.Steps.{all_led, end_stopped, goes_further, in_part, step_stopped, then_led}
use Rattle.desk_theorem.proofs.lives.VersionLiving.{barred_lives, led_lives}
use Rattle.desk_theorem.specs.lives.declared.leading.Led.TheVariants as led

module _ {D : Type 0} {g : Ghosts D} where
  none_yet : (x : Migration D g) → is_halted x ≡ false → StepsOn x x
  none_yet x off = record { working = off; sectors = refl; honest = λ now. now; calm = λ now. refl; keeps = λ d keeps. keeps }

  on_to : (x y : Migration D g) → is_halted x ≡ false → Moves x y → is_halted y ≡ false → StepsOn x y
  on_to x y off moves works = goes_further x x y (none_yet x off) moves works

  whole_leads : (x : Migration D g) (rows : ℕ) (z : Migration D g) → is_halted x ≡ false → IsMigrated x rows z → LeadsOn x led.Whole z
  whole_leads x rows z off is = then_led x is.y z led.Whole (on_to x is.y off is.moves is.put.works) (all_led is.y z is.put.works is.ends is.told)

  step_leads : (x : Migration D g) (e : StoreError) (z : Migration D g) → is_halted x ≡ false → StepStopped x e z → LeadsOn x (led.Stopped e) z
  step_leads x e z off is = then_led x is.w z (led.Stopped e) (on_to x is.w off is.before is.worked) (step_stopped is.w z e is.worked is.last is.why)

  end_leads : (x : Migration D g) (e : StoreError) (z : Migration D g) → is_halted x ≡ false → EndStopped x e z → LeadsOn x (led.Stopped e) z
  end_leads x e z off is = then_led x is.y z (led.Stopped e) (on_to x is.y off is.moves is.put.works) (end_stopped is.y z e is.put.works is.put.ended is.ends is.why)

  module _ (law : ImagesAreOne) (device : D) (x : Migration D g) (begun : IsBegun device x) where
    led_life : (far : Led) (z : Migration D g) → LeadsOn x far z → OnDevice (LedHolds far) (g.disk device) (disk_of z)
    led_life far z leads = on_device law (IsLed far) (LedHolds far) (led_holds far) (g.disk device) (disk_of z) (led_lives g device x z far begun.sectors begun.keeps begun.honest begun.calm leads)

    pub migrated_life : (rows : ℕ) (z : Migration D g) → IsMigrated x rows z → OnDevice (LedHolds led.Whole) (g.disk device) (disk_of z)
    migrated_life rows z is = led_life led.Whole z (whole_leads x rows z begun.working is)

    pub stopped_life : (fault : StoreFault) (z : Migration D g) → MigratesAll x (Err fault) z → StoppedLife (g.disk device) (disk_of z) fault
    stopped_life fault z (inl (moves, inl step)) = inl (step.0, step.1, led_life (led.Stopped step.0) z (step_leads x step.0 z begun.working step.2))
    stopped_life fault z (inl (moves, inr end)) = inr (end.0, (end.1.rows, end.1.many, led_life led.InPart z (in_part x z begun.working moves)))
    stopped_life fault z (inr stop) = inl (stop.0, stop.1, led_life (led.Stopped stop.0) z (end_leads x stop.0 z begun.working stop.2))

-- a store that was not opened for it
pub barred_life : {D : Type 0} (g : Ghosts D) → ImagesAreOne → (device left : D) (why : StoreError) → (g.disk left).sectors ≡ (g.disk device).sectors → ((g.disk left).is_honest → (g.disk device).is_honest) → LeavesOneAs (g.disk device) (g.disk left)
    → ((g.disk left).is_honest → (g.disk device).faults ≤ (g.disk left).faults) → ((g.disk left).is_honest → why ≢ DeviceFault → (g.disk left).faults ≡ (g.disk device).faults)
    → IsRefused (g.disk device) (g.disk left) why → ((g.disk left).is_honest → why ≡ AlreadyNew → LeavesNew (g.disk device) (g.disk left)) → OnDevice (LedHolds (led.Unopened why)) (g.disk device) (g.disk left)
barred_life g law device left why same honest moments more calm refused already =
    on_device law (IsLed (led.Unopened why)) (LedHolds (led.Unopened why)) (led_holds (led.Unopened why)) (g.disk device) (g.disk left)
    (barred_lives g device left why same honest moments more calm refused already)
