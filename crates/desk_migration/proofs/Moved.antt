-- Steps and the end at a migration.
use Rattle.{std.specs.Prelude.{◌↔◌, Result, Ok, Err, OnOk, IfErr, IsErr}, desk_migration.specs.Puts.{FinishErr, HoldsAll, HoldsMore, HoldsTo, StepErr, Steps}}
use Rattle.{std.proofs.Common.{rules, ◌≡◌, ◌⊎◌, ℕ, zero, suc, true, false, List, refl, sym, ap, subst, ◌∙◌, inl, inr, arith}, desk_model.specs.claim.Desk.Desk}
use Rattle.desk_migration.specs.claim.{Holding.{AllAreHeld, AreHeldTo}, Migrating.{disk_of, has_ended, is_halted, sectors_of, Ends, Goes, HasMore, HasRows, Keeps, KeepsNew, Moves}}
use Rattle.{desk_migration.specs.declared.migration.Migration.Migration, desk_store_pages.{specs.{Moments.StopsLeave, declared.error.StoreError.StoreError}, proofs.Kept.opens_now}}
use Rattle.desk_store_pages.specs.{claim.Desks.{IsOldMap, InPages as HoldsDesk, OpensEither, OpensOld}, declared.error.StoreError.TheVariants.{Memory, DeviceFault, Halted}}
use Rattle.{desk_store_rows.specs.claim.Rows.KeyMap, page_btree.specs.gets.claim.Map.InPages, page_store.specs.claim.Transactions.{has_halted, IsQuiet, IsSame}}
use Rattle.{page_store.specs.{declared.pages.Pages.Pages, gate_journal.claim.Contents.is_halted as journal_halted}, sector_device.specs.claim.{Disk.Image, Moments.LeavesOnly}}
use Rattle.{sector_device.{specs.declared.SectorDevice.Ghosts, proofs.Moments.leaves_now}, desk_migration.proofs.Pairs.{not_all, same_map}, page_store.proofs.Chains.either}
use Rattle.desk_store_opening.proofs.chunk_table.Committing.{both, quiet_rows}

zero_or : (n : ℕ) → (n ≡ 0) ⊎ (n ≡ 0 → ⊥)
zero_or zero = inl refl
zero_or (suc n) = inr (λ is. absurd (omega arith))

module _ {D : Type 0} {g : Ghosts D} where
  pub goes_on : {A : Type 0} {r : Result A StoreError} (x y : Migration D g) → Steps x.pages y.pages r → Goes x y
  goes_on x y steps = let still = λ (halted : is_halted x ≡ true). (steps.still halted).1 in search (steps.shape.journal_pages, steps.faults.rose, steps.honest, still, steps.faults.calm)

  still_halted : (x y : Migration D g) → is_halted x ≡ true → IsSame x.pages y.pages → is_halted y ≡ true
  still_halted x y halted same = ap (λ j. journal_halted j) same ∙ halted

  -- the pages of one that keeps its desk hold it
  pub holds_to : (x : Migration D g) (d : Desk) → Keeps x d → is_halted x ≡ false → (disk_of x).is_honest → HoldsTo x.from x.pages d
  holds_to x d keeps working honest = let (m, has) = keeps.holds working honest in record { m = m; holds = has.holds; is = has.is; done = has.done }

  pub holds_all : (x : Migration D g) (d : Desk) → has_ended x ≡ true → Keeps x d → is_halted x ≡ false → (disk_of x).is_honest → HoldsAll x.pages d
  holds_all x d ended keeps working honest = let (m, has) = keeps.holds working honest in record { m = m; holds = has.holds; is = has.is; all = has.all ended }

  -- ---- images
  -- what a stop leaves behind a call that goes on
  left_of : (x y : Migration D g) (d : Desk) (P : Image → Type 0) → Goes x y → ((c : Image) → OpensOld (sectors_of x) d c → P c) → (is_halted x ≡ false → LeavesOnly P (disk_of x) (disk_of y)) → Keeps x d → (disk_of y).is_honest → (c : Image) → (disk_of y).leaves c → P c
  left_of x y d P goes gives moment keeps honest c leaves = elim (either (is_halted x)) [
    | inl halted ↦ gives c (keeps.left (goes.honest honest) c (subst (λ j. (g.disk j.device).leaves c) (goes.still halted) leaves))
    | inr working ↦ leaves_now P (disk_of x) (disk_of y) (moment working) c leaves
  ]

  -- ---- steps
  abbrev pub LeavesOld : Migration D g → Migration D g → Type 0
  LeavesOld x y = StopsLeave (HoldsTo x.from x.pages) OpensOld x.pages y.pages

  -- one that keeps the rows of the desk while it works keeps the desk
  moves_by : (x y : Migration D g) → Goes x y → LeavesOld x y → ((d : Desk) → Keeps x d → is_halted y ≡ false → (disk_of y).is_honest → (m : KeyMap) × HasRows y d m) → Moves x y
  moves_by x y goes leaves holds =
      let moment = λ (d : Desk) (keeps : Keeps x d) (working : is_halted x ≡ false) (honest : (disk_of y).is_honest). leaves honest working (sectors_of x) d refl (holds_to x d keeps working (goes.honest honest)) in
      record {
        goes = goes;
        any_moment = moment;
        keeps = λ d keeps. record {
          holds = holds d keeps;
          left = λ honest c leaves. rw goes.sectors (left_of x y d (OpensOld (sectors_of x) d) goes (λ i opens. opens) (λ working. moment d keeps working honest) keeps honest c leaves);
        };
      }

  abbrev pub PutsMore : ℕ → Migration D g → Migration D g → Type 0
  PutsMore count x y = (disk_of y).is_honest → (m : KeyMap) (d : Desk) → InPages x.pages m → IsOldMap m d → AreHeldTo x.from m → HoldsMore count m d y.from y.pages

  pub more_rows : (x y : Migration D g) (count : ℕ) → (has_ended y ≡ true → count ≡ 0) → PutsMore count x y → (disk_of y).is_honest → (d : Desk) (m : KeyMap) → HasRows x d m → HasMore x d m count y
  more_rows x y count ended puts honest d m has =
      let more = puts honest m d has.holds has.is has.done in
      record {
        n = more.n;
        has = record { holds = more.holds; is = more.is; done = more.done; all = λ is. more.clean (let none = ended is in omega arith) };
        pairs = more.pairs;
        two_each = more.two_each;
        by = more.by;
        clean = more.clean;
      }

  pub exact_rows : (count : ℕ) (m : KeyMap) (d : Desk) (next : List ℕ) (ps : Pages D g) → HoldsMore count m d next ps → (count ≡ 0) ↔ AllAreHeld m
  exact_rows count m d next ps more = (
    λ none. subst AllAreHeld (same_map more.pairs m more.n (let two = more.two_each in omega arith) more.by) (more.clean (omega arith)),
    λ all. elim (zero_or more.pairs) [
      | inl none ↦ let two = more.two_each in omega arith
      | inr some ↦ absurd (not_all more.pairs m more.n some more.by all)
    ],
  )

  pub stepped : (x y : Migration D g) (count : ℕ) → Goes x y → is_halted y ≡ false → LeavesOld x y → (has_ended y ≡ true → count ≡ 0) → PutsMore count x y → is_halted x ≡ false → Moves x y
  stepped x y count goes works leaves ended puts working = moves_by x y goes leaves (λ d keeps off honest.
      let (m, has) = keeps.holds working (goes.honest honest) in
      let more = more_rows x y count ended puts honest d m has in
      (more.n, more.has))

  -- ---- a step that was refused
  quiet_has : (x y : Migration D g) (d : Desk) → IsQuiet x.pages y.pages → y.from ≡ x.from → has_ended y ≡ has_ended x → ((disk_of y).is_honest → (disk_of x).is_honest) → Keeps x d → is_halted x ≡ false → (disk_of y).is_honest → (m : KeyMap) × HasRows y d m
  quiet_has x y d quiet from ended honest keeps working is_honest =
      let (m, has) = keeps.holds working (honest is_honest) in (
        m,
        record {
          holds = quiet_rows x.pages y.pages quiet is_honest m has.holds;
          is = has.is;
          done = rw from has.done;
          all = λ is. has.all (sym ended ∙ is);
        },
      )

  step_quiet : (from : List ℕ) (a b : Pages D g) (e : StoreError) → StepErr from a b e → has_halted a ≡ false → has_halted b ≡ false → IsQuiet a b
  step_quiet from a b Memory why working works = why
  step_quiet from a b DeviceFault why working works = both (has_halted b) why.halted works
  step_quiet from a b Halted why working works = both (has_halted a) why.0 working
  step_quiet from a b _ why working works = search rules

  working_before : (x y : Migration D g) → Goes x y → is_halted y ≡ false → is_halted x ≡ false
  working_before x y goes works = search (rules, either, both, still_halted)

  pub not_stepped : (x y : Migration D g) (e : StoreError) → Goes x y → LeavesOld x y → StepErr x.from x.pages y.pages e → y.from ≡ x.from → has_ended y ≡ has_ended x → Moves x y
  not_stepped x y e goes leaves why from ended = moves_by x y goes leaves (λ d keeps off honest.
      let working = working_before x y goes off in
      quiet_has x y d (step_quiet x.from x.pages y.pages e why working off) from ended goes.honest keeps working honest)

  -- ---- the end
  abbrev pub LeavesEither : Migration D g → Migration D g → Type 0
  LeavesEither x y = StopsLeave (HoldsAll x.pages) OpensEither x.pages y.pages

  pub ended_so : (x y : Migration D g) → has_ended x ≡ true → Goes x y → LeavesEither x y → Ends x y
  ended_so x y ended goes leaves =
      let moment = λ (d : Desk) (keeps : Keeps x d) (working : is_halted x ≡ false) (honest : (disk_of y).is_honest). leaves honest working (sectors_of x) d refl (holds_all x d ended keeps working (goes.honest honest)) in
      record { goes = goes; any_moment = moment; left = λ d keeps honest. left_of x y d (OpensEither (sectors_of x) d) goes (λ i opens. inr opens) (λ working. moment d keeps working honest) keeps honest }

  finish_quiet : (a b : Pages D g) (e : StoreError) → FinishErr a b e → has_halted a ≡ false → has_halted b ≡ false → IsQuiet a b
  finish_quiet a b DeviceFault why working works = both (has_halted b) why.1.halted works
  finish_quiet a b Halted why working works = both (has_halted a) why.0 working
  finish_quiet a b _ why working works = search rules

  -- a refusal without a fault leaves all as it was
  pub not_ended : (x y : Migration D g) (e : StoreError) → has_ended x ≡ true → Goes x y → FinishErr x.pages y.pages e → y.from ≡ x.from → has_ended y ≡ has_ended x → is_halted y ≡ false → (d : Desk) → Keeps x d → Keeps y d
  not_ended x y e on goes why from ended works d keeps =
      let working = working_before x y goes works in
      let rows = quiet_has x y d (finish_quiet x.pages y.pages e why working works) from ended goes.honest keeps working in
      record { holds = λ off. rows; left = λ honest c left. search (rows honest, opens_now) }

  -- ---- calls
  -- all is of the new version then
  pub told_of : (r : Result (Unit {0}) StoreError) (x y : Migration D g) → has_ended x ≡ true → Goes x y → OnOk r ((is_halted x ≡ false) × (is_halted y ≡ false)) → ((disk_of y).is_honest → (d : Desk) → HoldsAll x.pages d → OnOk r (HoldsDesk y.pages d)) → (disk_of y).is_honest → OnOk r ((d : Desk) → Keeps x d → KeepsNew y d)
  told_of (Ok v) x y ended goes ok told honest = λ d keeps. search (holds_all, goes.honest, opens_now)
  told_of (Err e) x y ended goes ok told honest = tt

  pub stays_of : (r : Result (Unit {0}) StoreError) (x y : Migration D g) → has_ended x ≡ true → Goes x y → IfErr r (λ e. FinishErr x.pages y.pages e) → y.from ≡ x.from → has_ended y ≡ has_ended x → IsErr r → is_halted y ≡ false → (d : Desk) → Keeps x d → Keeps y d
  stays_of (Ok v) x y ended goes why from same is works d keeps = absurd (let clash : false ≡ true = is in cc)
  stays_of (Err e) x y ended goes why from same is works d keeps = not_ended x y e ended goes why from same works d keeps
