-- One image, one desk, one version; and what an opening makes of that.
use Rattle.std.proofs.{Common.{◌≡◌, ◌≢◌, ◌≤◌, ◌^◌, ℕ, Bool, true, false, Result, Ok, Err, IfOk, IfErr, inl, inr, ⊎_elim, refl, sym, subst, ◌∙◌, arith}, lemmas.Bool.both_ways}
use Rattle.{desk_model.specs.claim.Desk.Desk, desk_store.specs.{Openings.{DiskRefused, OpenRefused}, claim.{Clerks.desk_of, Keeping.{IsLeft, OpensOneMore}, Openings.device_after}}}
use Rattle.{desk_store.specs.declared.clerk.Clerk.Clerk, desk_store_pages.specs.{Laws.HoldsOneDesk, Openings.{OpensOneOf, LeavesOneOf}, declared.error.StoreError.StoreError}}
use Rattle.desk_store_pages.specs.claim.{Desks.{HoldsDeskOf, OpensDeskOf, OpensDesk, OpensOld, OpensEither}, Openings.{AllVersions, IsOneAs, IsOneOf, OpensOneAs}}
use Rattle.{desk_store_pages.specs.declared.error.StoreError.TheVariants.{NotAStore, OldVersion}, desk_store_rows.specs.claim.{Keys.version, Rows.row_in, Tidy.version_row}}
use Rattle.{desk_theorem_runs.specs.{Recovery.{ImagesAreOne, Shows, Recovers}, claim.{Lives.IsOpening, Recovery.HoldsEither}}, page_store.specs.claim.Chain.{root_in, free_in}}
use Rattle.{page_store.specs.gate_journal.claim.Store.pages, sector_device.{specs.{claim.Disk.{Disk, Image}, declared.SectorDevice.Ghosts}, proofs.Moments.leaves_wider}}
use Rattle.page_btree.proofs.gets.MapLaws.{one_map}
use Rattle.page_store.proofs.gate_journal.Headers.{same_journal}

-- what pages say of their desk
abbrev Held : Bool → ℕ → Image → Desk → Type 0
Held new n P d = HoldsDeskOf new n P (root_in P) (free_in P) d

held_pages : (new : Bool) (sectors : ℕ) (d : Desk) (c : Image) (is : OpensDeskOf new sectors d c) → Held new is.n (pages is.J c) d
held_pages new sectors d c is = subst (λ (P : Image). Held new is.n P d) (λ i p. sym (is.opens.each p) i) is.holds

-- what the image holds is read there by any other reading of it
held_there : (new other : Bool) (sectors : ℕ) (d e : Desk) (c : Image) (is : OpensDeskOf new sectors d c) → OpensDeskOf other sectors e c → Held other is.n (pages is.J c) e
held_there new other sectors d e c is then =
    let header = sym then.opens.store.header ∙ is.opens.store.header in
    let journal : then.J ≡ is.J = same_journal then.J then.n is.J is.n (omega (arith, then.opens.store.most_journal)) (omega (arith, is.opens.store.most_journal)) header in
    let count : then.n ≡ is.n = omega (arith, journal, is.whole, then.whole) in
    rw (journal, count) at (held_pages other sectors e c then)

pub images_are_one : HoldsOneDesk → ImagesAreOne
images_are_one one new then sectors d e c few is other =
    one new then is.n _ _ _ d e (omega (arith, few, is.whole)) (held_pages new sectors d c is) (held_there new then sectors d e c is other)

-- pages hold a desk in one version
pub one_version : (sectors : ℕ) (d e : Desk) (c : Image) → sectors ≤ 2 ^ 32 → OpensDesk sectors d c → OpensOld sectors e c → ⊥
one_version sectors d e c few is other =
    let new = held_pages true sectors d c is in
    let old = held_there true false sectors d e c is other in
    let same : new.m ≡ old.m = one_map is.n _ _ _ new.m old.m (omega (arith, few, is.whole)) new.holds old.holds in
    let is_new : row_in old.m version ≡ version_row true = rw (new.is.version, same) at new.is.tidy.holdings.told in
    let is_old : row_in old.m version ≡ version_row false = rw old.is.version at old.is.tidy.holdings.told in
    let clash : version_row true ≡ version_row false = sym is_new ∙ is_old in
    cc

-- ---- an image in one of the versions
pub in_either : (new : Bool) (sectors : ℕ) (d : Desk) (c : Image) → OpensDeskOf new sectors d c → OpensEither sectors d c
in_either true sectors d c opens = inl opens
in_either false sectors d c opens = inr opens

pub either_as : (sectors : ℕ) (d : Desk) (c : Image) → OpensEither sectors d c → (new : Bool) × OpensDeskOf new sectors d c
either_as sectors d c = ⊎_elim (λ is. (true, is)) (λ is. (false, is))

pub few_sectors : (disk : Disk) → disk.sectors ≤ 2 ^ 32
few_sectors disk = omega (arith, disk.few)

-- an image opens to one of these desks
pub record OpensTo (n : ℕ) (P : Desk → Type 0) (c : Image) : Type 0 where
  pub desk : Desk
  pub has : P desk
  pub opens : OpensEither n desk c

-- each that a stop may leave does
abbrev pub HoldsTo : (Desk → Type 0) → Disk → Type 0
HoldsTo P disk = (c : Image) → disk.leaves c → OpensTo disk.sectors P c

pub all_of : (P : Desk → Type 0) (disk : Disk) → HoldsTo P disk → AllVersions disk
all_of P disk holds c leaves = let to = holds c leaves in let is = either_as disk.sectors to.desk c to.opens in ((is.0, to.desk), is.1)

-- a desk to which one of them opens is one of these
pub one_of : ImagesAreOne → (P : Desk → Type 0) (disk : Disk) → HoldsTo P disk → (x : Bool × Desk) → IsOneAs disk x → P x.1
one_of one P disk holds x is =
    let to = holds is.was is.left in
    let there = either_as disk.sectors to.desk is.was to.opens in
    subst P (one there.0 x.0 disk.sectors to.desk x.1 is.was (few_sectors disk) there.1 is.opens) to.has

pub opens_it : ImagesAreOne → (P : Desk → Type 0) (disk : Disk) → HoldsTo P disk → (c : Image) → OpensOneAs disk c → OpensTo disk.sectors P c
opens_it one P disk holds c is = record { desk = is.x.1; has = one_of one P disk holds is.x is.one; opens = in_either is.x.0 disk.sectors is.x.1 c is.opens }

-- what a clerk who works leaves opens to its desk
pub left_working : (halted : Bool) (sectors : ℕ) (d : Desk) (c : Image) → halted ≡ false → IsLeft halted sectors d c → OpensDesk sectors d c
left_working halted sectors d c working left = ⊎_elim (λ opens. opens) (λ (more : OpensOneMore halted sectors d c). absurd (both_ways halted working more.halt)) left

module _ {D : Type 0} {g : Ghosts D} where
  shows : (device : D) (d : Desk) (result : Result (Clerk D g) (StoreError × D)) → ((e : Desk) → IsOneOf (g.disk device) e → e ≡ d) → AllVersions (g.disk device)
      → (g.disk (device_after result)).is_honest → IsOpening g device result → IfOk result (λ x. Shows (g.disk device).sectors d x)
  shows device d (Ok x) same all honest is =
      let opened = is.opened all in
      record { desk = same (desk_of x) (opened.1 honest); keeps = opened.0; working = is.working.0; sectors = is.working.1 }
  shows device d (Err e) same all honest is = tt

  -- what can't be the cause is not told
  untold : (device : D) (result : Result (Clerk D g) (StoreError × D)) (why : StoreError) → (DiskRefused (g.disk device) (g.disk (device_after result)) why → ⊥)
      → IfErr result (λ e. OpenRefused g device e.1 e.0) → IfErr result (λ e. e.0 ≢ why)
  untold device (Ok x) why never refused = tt
  untold device (Err e) why never refused = λ is. never (subst (λ (w : StoreError). OpenRefused g device e.1 w) is refused)

  pub recovers : ImagesAreOne → (device : D) (d : Desk) (result : Result (Clerk D g) (StoreError × D)) → HoldsEither (g.disk device) d → (g.disk (device_after result)).is_honest
      → LeavesOneOf (g.disk device) (g.disk (device_after result)) → IsOpening g device result → IfErr result (λ e. OpenRefused g device e.1 e.0) → Recovers g device d result
  recovers one device d result holds honest moments is refused =
      let old = g.disk device in
      let now = g.disk (device_after result) in
      let only : HoldsTo (λ e. e ≡ d) old = λ c leaves. record { desk = d; has = refl; opens = holds c leaves } in
      let all = all_of (λ e. e ≡ d) old only in
      let same = λ (x : Bool × Desk) (it : IsOneAs old x). one_of one (λ e. e ≡ d) old only x it in
      let opens = λ (c : Image) (it : OpensOneAs old c). (let to = opens_it one (λ e. e ≡ d) old only c it in rw to.has at to.opens) in
      record {
        any_moment = leaves_wider (OpensOneAs old) (OpensEither old.sectors d) old now opens (is.any_moment honest all);
        shown = shows device d result (λ e it. same (true, e) it) all honest is;
        taken = untold device result NotAStore (λ never. never honest all) refused;
        new = λ is_new. leaves_wider (OpensOneOf old) (OpensDesk old.sectors d) old now (λ c it. rw (same (true, it.desk) it.one) at it.opens)
            (moments honest (λ c leaves. (d, is_new c leaves)));
        told = λ is_new. untold device result OldVersion (λ why. (why honest).1 (λ c leaves. (d, is_new c leaves))) refused;
      }
