-- What an opening may leave.
use Rattle.{std.specs.Prelude.{◌≡◌, ℕ, List, Result}, gate_journal.specs.Recovery.{AllStores, HasRoom, HasLayout, ReadsAs, Found, Reopens, Recovers, Starts, LooksAt, OpensSo}}
use Rattle.std.proofs.Common.{rules, ◌≡◌, ◌⊎◌, ◌≤◌, ◌<◌, ℕ, Result, Ok, Err, OnOk, OnErr, IsErrOf, IfOk, IfErr, IsErrAnd, sym, subst, ◌∙◌, arith}
use Rattle.gate_journal.specs.{Steps.{TakesStep, Commits, CommitsOn}, Store.{IsStoreOf, IsSettled}, claim.Store.{header_of, pages, IsStore, Opens}, declared.layout.Layout.Layout}
use Rattle.{gate_journal.specs.declared.error.PageError.{PageError, TheVariants.{NotAStore, DeviceFault}}, sector_device.specs.Disk.{IsSynced, HasCause, Step}}
use Rattle.{sector_device.specs.claim.{Disk.{Disk, Image, AgreeOff, Nowhere, Touches, LeavesBut}, Moments.LeavesOnly}, gate_journal.proofs.Headers.is_laid_out}
use Rattle.sector_device.proofs.Moments.{leaves_from, leaves_more, leaves_wider, now_but, cause_after, on_ok, touches_more}

agreed : (b c : Image) → AgreeOff Nowhere b c → b ≡ c
agreed b c agree = λ i k. (sym (agree.same k (λ none. none))) i

pub same_reads : (a b : Disk) → Touches Nowhere a b → a.reads ≡ b.reads
same_reads a b ab = agreed a.reads b.reads ab.reads

always : {T E : Type 0} {P : Type 0} (r : Result T E) → P → OnOk r P
always r p = search arith

at_err : {T E : Type 0} {P : Type 0} (r : Result T E) (e : E) → IsErrOf r e → OnErr r P → P
at_err {T = T} {E = E} {P = P} r e is on = let Q : Result T E → Type 0 = λ s. OnErr s P in subst Q is on

not_both : {T : Type 0} (r : Result T PageError) → IfErr r (λ e. e ≡ DeviceFault) → IsErrOf r NotAStore → ⊥
not_both r only is = let same : NotAStore ≡ DeviceFault = subst (λ s. IfErr s (λ e. e ≡ DeviceFault)) is only in cc

no_fewer : {T E : Type 0} (a b : Disk) (r : Result T E) → HasCause a b r → a.faults ≤ b.faults
no_fewer a b r cause = search arith

-- one look, and another
pub looked_more : {T U E F : Type 0} {a b c : Disk} {x : T} {r : Result U F} → Touches Nowhere a b × HasCause {E = E} a b (Ok x) → Touches Nowhere b c × HasCause b c r
    → Touches Nowhere a c × HasCause a c r
looked_more {a = a} {b = b} {c = c} {r = r} first next = (touches_more Nowhere Nowhere a b c (λ i none. none) first.0 next.0, cause_after a b c r first.1.passed next.1)

-- nothing was written since the opening began
module _ (a : Disk) (all : AllStores a) where
  here : (c : Image) → a.leaves c → ReadsAs a c
  here c leaves = search rules

  there : (c : Image) → LeavesBut Nowhere a c → ReadsAs a c
  there c but = subst (λ (x : Image). ReadsAs a x) (agreed but.0 c but.2) (here but.0 but.1)

  pub quiet_reads : (b : Disk) → Touches Nowhere a b → LeavesOnly (ReadsAs a) a b
  quiet_reads b ab = search (rules, ab.later, here, a.only_now, there)

  -- what is read then is a store
  pub reads_store : (b : Disk) → Touches Nowhere a b → IsStoreOf b.sectors b.reads
  reads_store b ab = search (rules, now_but, b.as_read, agreed)

-- the pages that are read are those of an image that a stop might have left
pub quiet_found : (J n : ℕ) (a b d : Disk) → Touches Nowhere a b → b.reads 0 ≡ header_of J n → pages J d.reads ≡ pages J b.reads → Found J n a d
quiet_found J n a b d ab header same = search (rules, now_but, agreed)

module _ (J n : ℕ) (a : Disk) (synced : IsSynced a) where
  -- nothing was written since the gate was read
  pub quiet_opens : (b : Disk) → IsStore J n a.reads → Touches Nowhere a b → LeavesOnly (Opens J n (pages J a.reads)) a b
  quiet_opens b store ab = search (rules, leaves_from (Opens J n (pages J a.reads)) Nowhere, agreed a.reads)

  pub quiet_recovers : {T : Type 0} (b : Disk) (r : Result T PageError) → Touches Nowhere a b → OnOk r (b.faults ≡ a.faults) → (IsErrOf r DeviceFault → a.faults < b.faults) → (IsErrOf r NotAStore → IsStore J n a.reads → ⊥) → (IsErrOf r NotAStore → b.faults ≡ a.faults) → OnOk r (IsSettled J n b) → Recovers J n a b r
  quiet_recovers b r ab passed faulted refused calm settled = search (rules, quiet_opens, always, same_reads)

  pub fault_recovers : {T U E : Type 0} (b : Disk) (r : Result T PageError) (y : E) → IsErrAnd r (λ e. e ≡ DeviceFault)
      → Touches Nowhere a b × HasCause {T = U} a b (Err y) → Recovers J n a b r
  fault_recovers b (Ok x) y is seen = absurd is
  fault_recovers b (Err e) y is seen = quiet_recovers b (Err e) seen.0 tt (λ _. seen.1.failed) (λ was store. not_both (Err e) is was) (λ was. absurd (not_both (Err e) is was)) tt

  -- after the gate was found open
  pub back_recovers : {T : Type 0} (d e : Disk) (r : Result T PageError) → Touches Nowhere a d → d.faults ≡ a.faults → Reopens J n d e r → Recovers J n a e r
  back_recovers d e r ad passed re =
      let same = same_reads a d ad in
      let cause = cause_after a d e r passed re.cause in
      search (rules, no_fewer, leaves_more, quiet_opens, at_err, not_both, on_ok)

pub fault_starts : {U E : Type 0} (a b : Disk) (r : Result Layout PageError) (y : E) → IsErrAnd r (λ e. e ≡ DeviceFault)
    → Touches Nowhere a b × HasCause {T = U} a b (Err y) → Starts a b r
fault_starts a b r y is seen = search (arith, quiet_reads, not_both)

-- after the header was read
module _ {U F : Type 0} (a d e : Disk) (y : U) (l : Layout) (seen : Touches Nowhere a d × HasCause {E = F} a d (Ok y)) (room : HasRoom d.sectors l.journal_pages l.pages) (layout : HasLayout d.reads l) where
  store_at : AllStores a → IsStore l.journal_pages l.pages d.reads
  store_at all = is_laid_out d.sectors d.reads l.journal_pages l.pages room layout (reads_store a all d seen.0)

  reads_as : AllStores a → (c : Image) → Opens l.journal_pages l.pages (pages l.journal_pages d.reads) c → ReadsAs a c
  reads_as all c opens = let ad = seen.0 in search (rules, now_but, agreed, store_at)

  moments : {T : Type 0} (r : Result T PageError) → Recovers l.journal_pages l.pages d e r → AllStores a → LeavesOnly (ReadsAs a) a e
  moments r de all = leaves_more (ReadsAs a) a d e (quiet_reads a all d seen.0)
      (leaves_wider (Opens l.journal_pages l.pages (pages l.journal_pages d.reads)) (ReadsAs a) d e (reads_as all) (de.any_moment (store_at all)))

  pub starts_ok : {T : Type 0} (x : T) → Recovers l.journal_pages l.pages d e (Ok x) → Starts a e (Ok l)
  starts_ok x de = let ad = seen.0 in let passed = seen.1.passed in search (arith, moments (Ok x) de, quiet_found l.journal_pages l.pages a d e ad layout de.after)

  pub starts_err : {T : Type 0} (x : PageError) (r : Result Layout PageError) → IsErrAnd r (λ y. y ≡ x) → Recovers {T = T} l.journal_pages l.pages d e (Err x) → Starts a e r
  starts_err {T = T} x (Ok y) is de = absurd is
  starts_err {T = T} x (Err y) is de = record {
    was_honest = seen.0.was_honest;
    faults = omega (arith, seen.0.faults, de.faults);
    any_moment = moments {T = T} (Err x) de;
    passed = tt;
    faulted = λ was. let rose = de.faulted (cc) in omega (arith, seen.1.passed, rose);
    refused = λ was all. de.refused (cc) (store_at all);
    calm = λ was. de.calm (cc) ∙ seen.1.passed;
    untouched = λ was. touches_more Nowhere Nowhere a d e (λ i none. none) seen.0 (de.untouched (cc));
    settled = tt;
    found = tt;
  }

-- ---- an opening, by its parts
pub opens_so : {T : Type 0} {P : Disk → Disk → Result T PageError → Type 0} {a b : Disk} {r : Result T PageError} → b.sectors ≡ a.sectors → (b.is_honest → a.is_honest) → IfErr r (λ e. (e ≡ NotAStore) ⊎ (e ≡ DeviceFault)) → (b.is_honest → P a b r) → OpensSo P a b r
opens_so sectors honest errs model = record { sectors = sectors; honest = honest; errs = errs; model = model }

pub looks_so : {T E : Type 0} {Q : T → Type 0} {a b : Disk} {r : Result T E} → b.sectors ≡ a.sectors → (b.is_honest → Touches Nowhere a b × HasCause a b r) → (b.is_honest → IfOk r Q) → LooksAt Q a b r
looks_so sectors model told = record { sectors = sectors; model = model; told = told }

-- ---- what a step did so far, and at its end
-- nothing failed so far
pub record SoFar (S : ℕ → Type 0) (Q : Disk → Type 0) (old new : Disk) : Type 0 where
  pub touches : Touches S old new
  pub passed : new.faults ≡ old.faults
  pub done : Q new

pub step_so : {T E : Type 0} {S : ℕ → Type 0} {Q : Disk → Type 0} {a b : Disk} {r : Result T E} → b.sectors ≡ a.sectors → (b.is_honest → Step S Q a b r) → TakesStep S Q a b r
step_so sectors model = record { sectors = sectors; model = model }

pub commits_so : {T E : Type 0} {l : Layout} {ws : List (ℕ × List ℕ)} {a b : Disk} {r : Result T E} → b.sectors ≡ a.sectors → (b.is_honest → Commits l.journal_pages l.pages ws a b r) → CommitsOn l ws a b r
commits_so sectors model = record { sectors = sectors; model = model }
