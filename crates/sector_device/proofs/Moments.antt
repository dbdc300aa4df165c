-- Lemmas on the definitions of Moments.
use Rattle.{std.{specs.Prelude.{◌≡◌, ℕ, Result, Ok, Err, OnOk}, proofs.Common.{sym, subst, ◌∙◌, arith}}, sector_device.specs.Disk.{IsSynced, HasCause, Step}}
use Rattle.sector_device.specs.claim.{Disk.{Disk, Image, AgreeOff, LeavesBut, Touches, Nowhere}, Moments.LeavesOnly}

pub agree_trans : (S T : ℕ → Type 0) (a b c : Image) → ((i : ℕ) → T i → S i) → AgreeOff S a b → AgreeOff T b c → AgreeOff S a c
agree_trans S T a b c within ab bc = record { same = λ i off. bc.same i (λ t. off (within i t)) ∙ ab.same i off }

-- a call adds no image but those that differ at touched sectors alone
leaves_by : (P : Image → Type 0) (S : ℕ → Type 0) (a b : Disk) → Touches S a b → ((c : Image) → LeavesBut S a c → P c) → LeavesOnly P a b
leaves_by P S a b ab has = search (arith, has, a.only_now, ab.since)

-- also of what a stop may leave now
pub leaves_now : (P : Image → Type 0) (a b : Disk) → LeavesOnly P a b → (c : Image) → b.leaves c → P c
leaves_now P a b ab c leaves = ab.each c (b.counts_now a.moment c ab.later leaves)

-- what a stop may leave now, it could leave before, but for the touched sectors
pub now_but : (S : ℕ → Type 0) (a b : Disk) → Touches S a b → (c : Image) → b.leaves c → LeavesBut S a c
now_but S a b ab c leaves = leaves_now (LeavesBut S a) a b (leaves_by (LeavesBut S a) S a b ab (λ x but. but)) c leaves

pub touches_more : (S T : ℕ → Type 0) (a b c : Disk) → ((i : ℕ) → T i → S i) → Touches S a b → Touches T b c → Touches S a c
touches_more S T a b c within ab bc = search (arith, agree_trans S T a.reads b.reads c.reads within, earlier, ab.since, bc.since, ab.keeps, bc.keeps)
  where
    earlier : (x : Image) → LeavesBut T b x → LeavesBut S a x
    earlier x but = let from = now_but S a b ab but.0 but.1 in (from.0, from.1, agree_trans S T from.0 but.0 x within from.2 but.2)

-- nothing happened
pub touches_none : (S : ℕ → Type 0) (a : Disk) → a.is_honest → Touches S a a
touches_none S a honest = search arith

pub touches_wider : (S T : ℕ → Type 0) (a b : Disk) → ((i : ℕ) → S i → T i) → Touches S a b → Touches T a b
touches_wider S T a b within ab = touches_more T S a a b within (touches_none T a ab.was_honest) ab

-- a synced device stays so while nothing is written
pub synced_still : (a b : Disk) → IsSynced a → Touches Nowhere a b → IsSynced b
synced_still a b synced ab c leaves = search (arith, now_but Nowhere a b ab c leaves, synced, ab.reads.same)

-- a call after which each image has P, where the device was synced before
pub leaves_from : (P : Image → Type 0) (S : ℕ → Type 0) (a b : Disk) → IsSynced a → Touches S a b → ((c : Image) → AgreeOff S a.reads c → P c) → LeavesOnly P a b
leaves_from P S a b synced ab has =
    leaves_by P S a b ab (λ c but. has c (record { same = λ i off. but.2.same i off ∙ (synced but.0 but.1).same i (λ none. none) }))

pub leaves_more : (P : Image → Type 0) (a b c : Disk) → LeavesOnly P a b → LeavesOnly P b c → LeavesOnly P a c
leaves_more P a b c ab bc = search (arith, ab.each, ab.before, bc.before)

pub leaves_wider : (P Q : Image → Type 0) (a b : Disk) → ((c : Image) → P c → Q c) → LeavesOnly P a b → LeavesOnly Q a b
leaves_wider P Q a b wider ab = search (arith, wider, ab.each, ab.before)

-- a call that wrote nothing adds no image
pub leaves_still : (P : Image → Type 0) (a b c : Disk) → LeavesOnly P a b → Touches Nowhere b c → LeavesOnly P a c
leaves_still P a b c ab bc =
    leaves_more P a b c ab (leaves_by P Nowhere b c bc (λ x but. subst P (λ i k. (sym (but.2.same k (λ none. none))) i) (leaves_now P a b ab but.0 but.1)))

-- ---- results
pub on_ok : {T E : Type 0} {P Q : Type 0} (r : Result T E) → (P → Q) → OnOk r P → OnOk r Q
on_ok (Ok x) f p = f p
on_ok (Err e) f p = tt

-- calls that passed, and one more, whose result is told
pub cause_after : {T E : Type 0} (a b c : Disk) (r : Result T E) → b.faults ≡ a.faults → HasCause b c r → HasCause a c r
cause_after a b c r e cause = search arith

pub step_then : {T E : Type 0} (S U : ℕ → Type 0) (Q : Disk → Type 0) (a b c : Disk) (r : Result T E) → ((i : ℕ) → U i → S i) → Touches S a b → b.faults ≡ a.faults → Touches U b c → HasCause b c r → OnOk r (Q c) → Step S Q a c r
step_then S U Q a b c r within ab passed bc cause done = record { touches = touches_more S U a b c within ab bc; cause = cause_after a b c r passed cause; done = done }

-- calls that passed, and then a sync
pub then_sync : {T E : Type 0} (S : ℕ → Type 0) (Q : Disk → Type 0) (a b c : Disk) (r : Result T E) → Touches S a b → b.faults ≡ a.faults → Touches Nowhere b c → HasCause b c r → OnOk r (IsSynced c) → (IsSynced c → Q c) → Step S Q a c r
then_sync S Q a b c r ab passed bc cause synced has = step_then S Nowhere Q a b c r (λ i none. absurd none) ab passed bc cause (on_ok r has synced)
