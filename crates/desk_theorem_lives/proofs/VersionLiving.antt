-- Lives of a store of either version.
use Rattle.{std.{specs.Prelude.⊤, proofs.Common.{◌≡◌, ◌≢◌, ◌≤◌, ◌^◌, ℕ, Bool, true, false, refl, sym, subst, ◌∙◌, rules}}, desk_model.specs.claim.Desk.Desk}
use Rattle.desk_store_pages.specs.{claim.{Desks.OpensDeskOf, Openings.{AllVersions, IsOneAs, IsOneOf, LeavesOneAs, OpensOneAs}}, declared.error.StoreError.StoreError}
use Rattle.desk_theorem_lives.specs.{DeskInside.LivedThrough, VersionInside.{OpensIn, AllIn, IsOneIn, Becomes, LivesIn, IsLed, LedTo, LeadsOn}, declared.leading.Led.Led}
use Rattle.{desk_theorem_lives.specs.claim.Versions.{Version, version_1, version_2, either, MayBeOld, MayBeNew, Store, MayBar, Leads}, sector_device.specs.claim.Disk.{Disk, Image}}
use Rattle.desk_theorem_runs.specs.desk_migration.{Openings.{IsRefused, KeepsOne, LeavesNew}, claim.Migrating.{disk_of as migrated_disk, sectors_of as migrated_sectors}}
use Rattle.desk_theorem_runs.specs.{desk_migration.declared.migration.Migration.Migration, desk_store.{Openings.OpenRefused, declared.clerk.Clerk.Clerk}}
use Rattle.{desk_theorem_runs.specs.desk_store.claim.Clerks.{desk_of, disk_of, is_halted, sectors_of, Keeps}, sector_device.specs.declared.SectorDevice.Ghosts}
use Rattle.{desk_theorem_runs.proofs.One.{one_version, few_sectors, in_either, either_as}, sector_device.proofs.Moments.leaves_now}
use Rattle.desk_store_pages.specs.declared.error.StoreError.TheVariants as store
use Rattle.desk_theorem_lives.specs.declared.leading.Led.TheVariants as led

-- ---- what a store may be of
-- the new version, or the old one
abbrev Fits : Version → Bool → Type 0
Fits version_1 new = new ≡ false
Fits version_2 new = new ≡ true
Fits either new = ⊤

may_be_new : (v : Version) → Fits v true → MayBeNew v
may_be_new version_1 fits = let clash : true ≡ false = fits in cc
may_be_new _ fits = tt

may_be_old : (v : Version) → Fits v false → MayBeOld v
may_be_old version_2 fits = let clash : false ≡ true = fits in cc
may_be_old _ fits = tt

fits_of : (v : Version) (new : Bool) (n : ℕ) (d e : Desk) (c : Image) → n ≤ 2 ^ 32 → OpensIn v n d c → OpensDeskOf new n e c → Fits v new
fits_of version_1 true n d e c few opens is = absurd (one_version n e d c few is opens)
fits_of version_1 false n d e c few opens is = refl
fits_of version_2 true n d e c few opens is = refl
fits_of version_2 false n d e c few opens is = absurd (one_version n d e c few opens is)
fits_of either new n d e c few opens is = tt

opens_in : (v : Version) (new : Bool) (n : ℕ) (d : Desk) (c : Image) → Fits v new → OpensDeskOf new n d c → OpensIn v n d c
opens_in either new n d c fits opens = in_either new n d c opens
opens_in _ new n d c fits opens = subst (λ (b : Bool). OpensDeskOf b n d c) fits opens

pub opens_as : (v : Version) (n : ℕ) (d : Desk) (c : Image) → OpensIn v n d c → (new : Bool) × OpensDeskOf new n d c
opens_as version_1 n d c opens = (false, opens)
opens_as version_2 n d c opens = (true, opens)
opens_as either n d c opens = either_as n d c opens

pub all_in : (v : Version) (disk : Disk) → AllIn v disk → AllVersions disk
all_in v disk all c left =
    let is = all c left in
    let it = opens_as v disk.sectors is.0 c is.1 in
    ((it.0, is.0), it.1)

-- a desk that was there
one_in : (v : Version) (disk : Disk) → AllIn v disk → (x : Bool × Desk) → IsOneAs disk x → Fits v x.0 × IsOneIn v disk x.1
one_in v disk all x one =
    let there = all one.was one.left in
    let fits = fits_of v x.0 disk.sectors there.0 x.1 one.was (few_sectors disk) there.1 one.opens in
    (fits, record { was = one.was; left = one.left; opens = opens_in v x.0 disk.sectors x.1 one.was fits one.opens })

-- a store that is not opened is as it was
stays_in : (life : (t u : ℕ) → Store → Store → Type 0) (v : Version) (old new : Disk) → new.is_honest → AllIn v old → LeavesOneAs old new
    → ((d : Desk) → life old.faults new.faults (v, d) (v, d)) → Becomes life v old new
stays_in life v old new now all moments lives = (
  v,
  λ c stopped.
      (let is = leaves_now (OpensOneAs old) old new (moments now (all_in v old all)) c stopped in
      let one = one_in v old all is.x is.one in
      (is.x.1, one.1, (is.x.1, lives is.x.1, opens_in v is.x.0 old.sectors is.x.1 c one.0 is.opens))),
)

-- a device that was only read
pub stays_lives : (old new : Disk) → new.sectors ≡ old.sectors → (new.is_honest → old.is_honest) → LeavesOneAs old new → (new.is_honest → old.faults ≤ new.faults) → LivesIn (λ t u s e. e ≡ s) old new
stays_lives old new same honest moments more = record {
  sectors = same;
  honest = honest;
  faults = λ now all. more now;
  became = λ now v all. stays_in (λ t u s e. e ≡ s) v old new now all moments (λ d. refl);
}

-- ---- a store is asked
module _ {D : Type 0} (g : Ghosts D) where
  -- a clerk that was opened was asked, as `life` tells it: the store may be of the new version, and is then
  pub clerk_lives : (device : D) (x y : Clerk D g) (life : (t u : ℕ) → Desk → Desk → Type 0) → sectors_of x ≡ (g.disk device).sectors → is_halted x ≡ false
      → (AllVersions (g.disk device) → Keeps x × ((disk_of x).is_honest → IsOneOf (g.disk device) (desk_of x))) → ((disk_of x).is_honest → (g.disk device).is_honest)
      → ((disk_of x).is_honest → (disk_of x).faults ≡ (g.disk device).faults) → LivedThrough life x y
      → LivesIn (λ t u s e. MayBeNew s.0 × (e.0 ≡ version_2) × life t u s.1 e.1) (g.disk device) (disk_of y)
  clerk_lives device x y life long off opened honest passed through =
      let whole : sectors_of y ≡ (disk_of y).sectors = y.pages.journal.room.whole in
      record {
        sectors = sym whole ∙ through.sectors ∙ long;
        honest = λ now. honest (through.honest now);
        faults = λ now all. rw (passed (through.honest now)) at (through.faults (opened all).0 off now);
        became = λ now v all.
            (let found = opened (all_in v (g.disk device) all) in
            let one = one_in v (g.disk device) all (true, desk_of x) (found.1 (through.honest now)) in
            let lived = rw (passed (through.honest now), long) at (through.lived found.0 off now) in
            (version_2, λ c stopped. (let there = lived c stopped in (desk_of x, one.1, (there.0, (may_be_new v one.0, refl, there.1), there.2)))));
      }

  barred : (device left : D) (v : Version) (why : StoreError) → (g.disk left).is_honest → AllIn v (g.disk device) → (why ≢ store.DeviceFault → (g.disk left).faults ≡ (g.disk device).faults) → OpenRefused g device left why
      → MayBar (g.disk device).faults (g.disk left).faults v why
  barred device left v store.NotAStore now all calm refused = refused now (all_in v (g.disk device) all)
  barred device left v store.DeviceFault now all calm refused = refused now
  barred device left v store.Memory now all calm refused = calm (λ is. cc)
  barred device left version_2 store.OldVersion now all calm refused = absurd ((refused now).1 all)
  barred device left _ store.OldVersion now all calm refused = (tt, calm (λ is. cc))
  barred device left v _ now all calm refused = absurd refused

  -- ---- it is led on
  bars : (device left : D) (why : StoreError) → LeavesOneAs (g.disk device) (g.disk left) → ((g.disk left).is_honest → why ≢ store.DeviceFault → (g.disk left).faults ≡ (g.disk device).faults)
      → IsRefused (g.disk device) (g.disk left) why
      → ((g.disk left).is_honest → why ≡ store.AlreadyNew → LeavesNew (g.disk device) (g.disk left)) → (g.disk left).is_honest → (v : Version) → AllIn v (g.disk device)
      → Becomes (IsLed (led.Unopened why)) v (g.disk device) (g.disk left)
  bars device left store.NotAStore moments calm refused already now v all = absurd (refused now (all_in v (g.disk device) all))
  bars device left store.DeviceFault moments calm refused already now v all =
      stays_in (IsLed (led.Unopened store.DeviceFault)) v (g.disk device) (g.disk left) now all moments (λ d. ((refl, refused now), refl))
  bars device left store.Memory moments calm refused already now v all =
      stays_in (IsLed (led.Unopened store.Memory)) v (g.disk device) (g.disk left) now all moments (λ d. ((refl, calm now (λ same. cc)), refl))
  bars device left store.AlreadyNew moments calm refused already now v all = (
    version_2,
    λ c stopped.
        (let is = already now refl (all_in v (g.disk device) all) c stopped in
        let one = one_in v (g.disk device) all (true, is.desk) is.one in
        (is.desk, one.1, (is.desk, ((may_be_new v one.0, refl, calm now (λ same. cc)), refl), is.opens))),
  )
  bars device left _ moments calm refused already now v all = absurd refused

  -- a store that was not opened
  module _ (device left : D) (why : StoreError) (same : (g.disk left).sectors ≡ (g.disk device).sectors) (honest : (g.disk left).is_honest → (g.disk device).is_honest)
      (moments : LeavesOneAs (g.disk device) (g.disk left)) (more : (g.disk left).is_honest → (g.disk device).faults ≤ (g.disk left).faults)
      (calm : (g.disk left).is_honest → why ≢ store.DeviceFault → (g.disk left).faults ≡ (g.disk device).faults) where
    pub refused_lives : OpenRefused g device left why → LivesIn (λ t u s e. MayBar t u s.0 why × (e ≡ s)) (g.disk device) (g.disk left)
    refused_lives refused = record {
      sectors = same;
      honest = honest;
      faults = λ now all. more now;
      became = λ now v all. stays_in (λ t u s e. MayBar t u s.0 why × (e ≡ s)) v (g.disk device) (g.disk left) now all moments
          (λ d. (barred device left v why now all (calm now) refused, refl));
    }

    pub barred_lives : IsRefused (g.disk device) (g.disk left) why → ((g.disk left).is_honest → why ≡ store.AlreadyNew → LeavesNew (g.disk device) (g.disk left))
        → LivesIn (IsLed (led.Unopened why)) (g.disk device) (g.disk left)
    barred_lives refused already = search (rules, bars)

  -- the version to which it was led
  led_to : (t u n : ℕ) (d : Desk) (v : Version) (far : Led) (disk : Disk) → MayBeOld v → LedTo t u n d far disk → (w : Version) × Leads t u v far w × ((c : Image) → disk.leaves c → OpensIn w n d c)
  led_to t u n d v led.Whole disk old left = (version_2, (old, refl), left)
  led_to t u n d v led.InPart disk old left = (version_1, (old, refl), left)
  led_to t u n d v (led.Stopped store.Full) disk old left = (version_1, (old, refl), left)
  led_to t u n d v (led.Stopped store.Memory) disk old left = (version_1, (old, refl), left)
  led_to t u n d v (led.Stopped store.DeviceFault) disk old left = (either, (old, refl, left.0), left.1)
  led_to t u n d v (led.Stopped _) disk old left = absurd left
  led_to t u n d v (led.Unopened why) disk old left = absurd left

  pub led_lives : (device : D) (x y : Migration D g) (far : Led) → migrated_sectors x ≡ (g.disk device).sectors → (AllVersions (g.disk device) → (migrated_disk x).is_honest → KeepsOne (g.disk device) x)
      → ((migrated_disk x).is_honest → (g.disk device).is_honest) → ((migrated_disk x).is_honest → (migrated_disk x).faults ≡ (g.disk device).faults) → LeadsOn x far y
      → LivesIn (IsLed far) (g.disk device) (migrated_disk y)
  led_lives device x y far long opened honest passed leads =
      let whole : migrated_sectors y ≡ (migrated_disk y).sectors = y.pages.journal.room.whole in
      record {
        sectors = sym whole ∙ leads.sectors ∙ long;
        honest = λ now. honest (leads.honest now);
        faults = λ now all. rw (passed (leads.honest now)) at (leads.faults now);
        became = λ now v all.
            (let was = leads.honest now in
            let kept = opened (all_in v (g.disk device) all) was in
            let one = one_in v (g.disk device) all (false, kept.0) kept.1.1 in
            let left = rw (passed was, long) at (leads.left kept.0 kept.1.0 now) in
            let is = led_to (g.disk device).faults (migrated_disk y).faults (g.disk device).sectors kept.0 v far (migrated_disk y) (may_be_old v one.0) left in
            (is.0, λ c stopped. (kept.0, one.1, (kept.0, (is.1, refl), is.2 c stopped))));
      }
