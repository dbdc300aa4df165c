-- From what one life makes of whatever was there to what it makes of a store.
use Rattle.{std.proofs.Common.{◌≡◌, ◌≤◌, ℕ, true, false, refl, sym, subst, arith}, desk_model.specs.claim.Desk.Desk, desk_theorem.specs.claim.OneLife.{Asked, ReadHolds}}
use Rattle.{desk_store_pages.specs.claim.Openings.{AllVersions, IsOneOf, LeavesOneAs}, desk_theorem.specs.claim.Device.{HoldsStore, LeadsTo, OnDevice, OpensAs}}
use Rattle.desk_theorem_lives.specs.{DeskInside.LivedThrough, VersionInside.{HoldsIn, IsOneIn, LivesIn, OpensIn}, claim.Versions.{Store, Version, version_1, version_2}}
use Rattle.{desk_theorem_lives.specs.desk_store.{claim.Clerks.{desk_of, disk_of, is_halted, sectors_of, Keeps}, declared.clerk.Clerk.Clerk}, desk_theorem.proofs.OneLife.read_holds}
use Rattle.{desk_theorem_lives.specs.desk_theorem_runs.Recovery.ImagesAreOne, sector_device.specs.{claim.Disk.{Disk, Image}, declared.SectorDevice.Ghosts}}
use Rattle.desk_theorem_lives.proofs.VersionLiving.{clerk_lives, opens_as, stays_lives}

opens_in : (v : Version) (n : ℕ) (d : Desk) (c : Image) → OpensAs v n d c → OpensIn v n d c
opens_in version_1 n d c opens = opens
opens_in _ n d c opens = opens

told_as : (v : Version) (n : ℕ) (d : Desk) (c : Image) → OpensIn v n d c → OpensAs v n d c
told_as version_1 n d c opens = opens
told_as _ n d c opens = opens

-- where each image opens to one desk in a version
all_open : (v : Version) (disk : Disk) (d : Desk) → HoldsIn v disk d → AllVersions disk
all_open v disk d holds c left = let it = opens_as v disk.sectors d c (holds c left) in ((it.0, d), it.1)

only_one : ImagesAreOne → (v : Version) (disk : Disk) (d e : Desk) → HoldsIn v disk d → IsOneIn v disk e → d ≡ e
only_one law v disk d e holds one =
    let first = opens_as v disk.sectors d one.was (holds one.was one.left) in
    let other = opens_as v disk.sectors e one.was one.opens in
    let few = disk.few in
    law first.0 other.0 disk.sectors d e one.was (omega (arith, few)) first.1 other.1

-- ---- of a device that holds a store
held_in : (s : Store) (disk : Disk) → HoldsStore s disk → HoldsIn s.0 disk s.1
held_in s disk held c left = opens_in s.0 disk.sectors s.1 c (held c left)

pub held_all : (s : Store) (disk : Disk) → HoldsStore s disk → AllVersions disk
held_all s disk held = all_open s.0 disk s.1 (held_in s disk held)

-- what an opening found is the desk of that store
pub held_desk : ImagesAreOne → (s : Store) (disk : Disk) (d : Desk) → HoldsStore s disk → IsOneOf disk d → d ≡ s.1
held_desk law s disk d held one =
    let first = opens_as s.0 disk.sectors s.1 one.was (held_in s disk held one.was one.left) in
    let few = disk.few in
    law true first.0 disk.sectors d s.1 one.was (omega (arith, few)) one.opens first.1

-- what is known of each store that a device may have held is known in its life
pub and_on : (life : (t u : ℕ) → Store → Store → Type 0) (known : (t u : ℕ) → Store → Type 0) (old new : Disk) → (new.is_honest → (s : Store) → HoldsStore s old → known old.faults new.faults s) → OnDevice life old new
    → OnDevice (λ t u s e. life t u s e × known t u s) old new
and_on life known old new so once = record {
  sectors = once.sectors;
  honest = once.honest;
  lived = λ now s held.
      (let leads = once.lived now s held in
      record { no_fewer = leads.no_fewer; left = λ c stops. (let is = leads.left c stops in (is.0, (is.1, so now s held), is.2)) });
}

-- one life of a device, whatever it held
pub on_device : ImagesAreOne → (may life : (t u : ℕ) → Store → Store → Type 0) → ((t u : ℕ) (s e : Store) → may t u s e → life t u s e) → (old new : Disk) → LivesIn may old new → OnDevice life old new
on_device law may life holds_of old new once = record {
  sectors = once.sectors;
  honest = once.honest;
  lived = λ now s held.
      (let v = s.0 in
      let d = s.1 in
      let holds : HoldsIn v old d = λ c left. opens_in v old.sectors d c (held c left) in
      let became = once.became now v (λ c leaves. (d, holds c leaves)) in
      record {
        no_fewer = once.faults now (all_open v old d holds);
        left = λ c stops.
            (let is = became.1 c stops in
            let same : d ≡ is.0 = only_one law v old d is.0 holds is.1 in
            let next : Store = (became.0, is.2.0) in
            (next, holds_of old.faults new.faults (v, d) next (subst (λ (x : Desk). may old.faults new.faults (v, x) next) (sym same) is.2.1), told_as became.0 old.sectors is.2.0 c is.2.2));
      });
}

-- a device that was read, and that left what it held
pub read_on : ImagesAreOne → (old new : Disk) → new.sectors ≡ old.sectors → (new.is_honest → old.is_honest) → LeavesOneAs old new → (new.is_honest → old.faults ≤ new.faults) → OnDevice ReadHolds old new
read_on law old new same honest moments more = on_device law (λ t u s e. e ≡ s) ReadHolds read_holds old new (stays_lives old new same honest moments more)

-- what is known of what a life makes of a desk
pub through_more : {D : Type 0} {g : Ghosts D} (x y : Clerk D g) (may life : (t u : ℕ) → Desk → Desk → Type 0) → ((t u : ℕ) (d e : Desk) → may t u d e → life t u d e) → LivedThrough may x y → LivedThrough life x y
through_more x y may life more through = record {
  sectors = through.sectors;
  honest = through.honest;
  faults = through.faults;
  lived = λ keeps off now c stops. (let is = through.lived keeps off now c stops in (is.0, more (disk_of x).faults (disk_of y).faults (desk_of x) is.0 is.1, is.2));
}

-- a clerk that keeps its desk was asked: from this desk on
pub asked_on : {D : Type 0} {g : Ghosts D} (x y : Clerk D g) (life : (t u : ℕ) → Desk → Desk → Type 0)
    → LivedThrough life x y → Keeps x → is_halted x ≡ false → (disk_of y).is_honest → LeadsTo (Asked life) (sectors_of x) (disk_of x).faults (version_2, desk_of x) (disk_of y)
asked_on x y life through keeps off now = record {
  no_fewer = through.faults keeps off now;
  left = λ c stops. (let is = through.lived keeps off now c stops in ((version_2, is.0), (tt, refl, is.1), is.2));
}

-- a clerk that opened a device, as an opening tells it, was asked
pub clerk_on : {D : Type 0} {g : Ghosts D} → ImagesAreOne → (device : D) (x y : Clerk D g) (life : (t u : ℕ) → Desk → Desk → Type 0) → sectors_of x ≡ (g.disk device).sectors → is_halted x ≡ false
    → (AllVersions (g.disk device) → Keeps x × ((disk_of x).is_honest → IsOneOf (g.disk device) (desk_of x))) → ((disk_of x).is_honest → (g.disk device).is_honest)
    → ((disk_of x).is_honest → (disk_of x).faults ≡ (g.disk device).faults) → LivedThrough life x y → OnDevice (Asked life) (g.disk device) (disk_of y)
clerk_on {D} {g} law device x y life same off opened honest calm through =
    on_device law (Asked life) (Asked life) (λ t u s e is. is) (g.disk device) (disk_of y) (clerk_lives g device x y life same off opened honest calm through)
