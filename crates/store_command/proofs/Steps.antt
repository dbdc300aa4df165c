-- Steps of a migration, and what stops them.
use Rattle.{std.proofs.{Common.{◌≡◌, ◌≤◌, ℕ, true, false, inr, subst, rules}, lemmas.Bool.{both_ways, cases_Bool}}, desk_model.specs.claim.Desk.Desk}
use Rattle.{desk_store_pages.specs.{claim.Desks.OpensOld, declared.error.StoreError.StoreError}, desk_theorem.specs.lives.VersionInside.{StepsOn, LeadsOn, LedTo}}
use Rattle.desk_theorem.specs.{lives.declared.leading.Led.Led, runs.desk_migration.{Puts.{FinishErr, StepErr}, declared.migration.Migration.Migration}}
use Rattle.desk_theorem.specs.runs.desk_migration.claim.Migrating.{disk_of, has_ended, is_halted, sectors_of, Ends, Goes, Keeps, KeepsNew, Moves}
use Rattle.{page_store.{specs.claim.Transactions.IsQuiet, proofs.Stops.{leaves_here, leaves_quiet}}, sector_device.specs.{claim.Disk.Image, declared.SectorDevice.Ghosts}}
use Rattle.sector_device.proofs.Moments.{leaves_now}
use Rattle.desk_store_pages.specs.declared.error.StoreError.TheVariants as store
use Rattle.desk_theorem.specs.lives.declared.leading.Led.TheVariants as led

module _ {D : Type 0} {g : Ghosts D} where
  -- ---- steps that met no fault
  pub goes_further : (x y z : Migration D g) → StepsOn x y → Moves y z → is_halted z ≡ false → StepsOn x z
  goes_further x y z on moves off = search rules

  -- and what follows them
  pub then_led : (x y z : Migration D g) (far : Led) → StepsOn x y → LeadsOn y far z → LeadsOn x far z
  then_led x y z far on leads = search rules

  -- ---- faults
  no_less : (x y : Migration D g) → Goes x y → is_halted x ≡ false → (disk_of y).is_honest → (disk_of x).faults ≤ (disk_of y).faults
  no_less x y goes off now = search (rules, cases_Bool)

  -- ---- a step is refused
  still_old : (x y : Migration D g) (d : Desk) → sectors_of y ≡ sectors_of x → Keeps y d → (disk_of y).is_honest → (c : Image) → (disk_of y).leaves c → OpensOld (sectors_of x) d c
  still_old x y d same keeps now c left = subst (λ (n : ℕ). OpensOld n d c) same (keeps.left now c left)

  -- steps that are given up
  pub in_part : (x y : Migration D g) → is_halted x ≡ false → Moves x y → LeadsOn x led.InPart y
  in_part x y off moves = record {
    sectors = moves.goes.sectors;
    honest = moves.goes.honest;
    faults = no_less x y moves.goes off;
    left = λ d keeps now c left. still_old x y d moves.goes.sectors (moves.keeps d keeps) now c left;
  }

  step_left : (x y : Migration D g) (e : StoreError) → is_halted x ≡ false → Moves x y → StepErr x.from x.pages y.pages e → (d : Desk) → Keeps x d → (disk_of y).is_honest
      → LedTo (disk_of x).faults (disk_of y).faults (sectors_of x) d (led.Stopped e) (disk_of y)
  step_left x y store.Full off moves why d keeps now = λ c left. still_old x y d moves.goes.sectors (moves.keeps d keeps) now c left
  step_left x y store.Memory off moves why d keeps now = λ c left. still_old x y d moves.goes.sectors (moves.keeps d keeps) now c left
  step_left x y store.NotAStore off moves why d keeps now =
      let rows = keeps.holds off (moves.goes.honest now) in
      absurd (why.1 now d (record { m = rows.0; holds = rows.1.holds; is = rows.1.is; done = rows.1.done }))
  step_left x y store.DeviceFault off moves why d keeps now = (why.rose now, λ c left. inr (still_old x y d moves.goes.sectors (moves.keeps d keeps) now c left))
  step_left x y store.Halted off moves why d keeps now = both_ways (is_halted x) off why.0
  step_left x y _ off moves why d keeps now = absurd why

  pub step_stopped : (x y : Migration D g) (e : StoreError) → is_halted x ≡ false → Moves x y → StepErr x.from x.pages y.pages e → LeadsOn x (led.Stopped e) y
  step_stopped x y e off moves why = search (rules, no_less, step_left)

  -- ---- the end
  pub all_led : (x y : Migration D g) → is_halted x ≡ false → Ends x y → ((disk_of y).is_honest → (d : Desk) → Keeps x d → KeepsNew y d) → LeadsOn x led.Whole y
  all_led x y off ends told = search (rules, no_less)

  -- a call that read at most leaves the old version
  quiet_old : (x y : Migration D g) (d : Desk) → IsQuiet x.pages y.pages → Keeps x d → (disk_of y).is_honest → (c : Image) → (disk_of y).leaves c → OpensOld (sectors_of x) d c
  quiet_old x y d quiet keeps now c left =
      leaves_now (OpensOld (sectors_of x) d) (disk_of x) (disk_of y)
      (leaves_quiet x.pages y.pages quiet now (OpensOld (sectors_of x) d) (disk_of x) (leaves_here (OpensOld (sectors_of x) d) (disk_of x) (λ i leaves. keeps.left (quiet.honest now) i leaves)))
      c left

  end_left : (x y : Migration D g) (e : StoreError) → is_halted x ≡ false → has_ended x ≡ true → Ends x y → FinishErr x.pages y.pages e → (d : Desk) → Keeps x d → (disk_of y).is_honest
      → LedTo (disk_of x).faults (disk_of y).faults (sectors_of x) d (led.Stopped e) (disk_of y)
  end_left x y store.Full off ended ends why d keeps now = quiet_old x y d why.0 keeps now
  end_left x y store.Memory off ended ends why d keeps now = quiet_old x y d why.0 keeps now
  end_left x y store.NotAStore off ended ends why d keeps now =
      let rows = keeps.holds off (ends.goes.honest now) in
      absurd (why.1 now d (record { m = rows.0; holds = rows.1.holds; is = rows.1.is; all = rows.1.all ended }))
  end_left x y store.DeviceFault off ended ends why d keeps now = (why.1.rose now, ends.left d keeps now)
  end_left x y store.Halted off ended ends why d keeps now = both_ways (is_halted x) off why.0
  end_left x y _ off ended ends why d keeps now = absurd why

  pub end_stopped : (x y : Migration D g) (e : StoreError) → is_halted x ≡ false → has_ended x ≡ true → Ends x y → FinishErr x.pages y.pages e → LeadsOn x (led.Stopped e) y
  end_stopped x y e off ended ends why = search (rules, no_less, end_left)
