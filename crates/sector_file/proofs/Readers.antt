-- What calls that only read leave of the disk, and whether a reader was honest.
use Rattle.std.proofs.Common.{rules, ◌≡◌, ◌≢◌, ◌<◌, ◌+◌, ◌^◌, ◌⊎◌, ◌∙◌, ℕ, Bool, length, cond, get_or, false, List, [], ◌∷◌, ◌++◌, refl, sym, ap, subst, inl, inr, nat_eq, arith, IsTrue, ◌&&◌, ◌||◌, slice_index, replicate}
use Rattle.{std.proofs.lemmas.Bool.{and_from, and_parts, cases_eq, eq-eqb, ne_eqb, false≢true, Decides.nat_tests}, sector_device.specs.Disk.{IsSynced, Only}}
use Rattle.{sector_device.{specs.{Held.{refused, image_of}, claim.Disk.{Image, Touches, Nowhere}}, proofs.Moments.{touches_more, touches_wider}}, sector_file.specs.Reader.IsReader}
use Rattle.sector_file.specs.Told.{Told, Call, first_held, step, after_opening, after_read, after_fault, after_write, after_torn, after_sync, after_sharing, replay, replay_on, only_reads, read_call, failed_call, told_disk}
use Rattle.sector_file.proofs.{Disks.{all_synced, read_is, fault_is}, Steps.{first_true, length_held, whole_read, short_read}}

second_true : (a b : Bool) → IsTrue (a && b) → IsTrue b
second_true a b is = (and_parts a b is).1

one_more : (a b c : ℕ) → a ≡ b + c → a + 1 ≡ b + (c + 1)
one_more a b c is = omega (arith, is)

not_either : (k : ℕ) → k ≢ 0 → k ≢ 3 → IsTrue (nat_eq k 0 || nat_eq k 3) → ⊥
not_either k zero three is = search (rules, nat_eq, nat_tests, false≢true)

module _ (sector : ℕ → List ℕ) where
  pub replay_joined : (xs ys : List Call) → replay sector (xs ++ ys) ≡ replay_on sector (replay sector ys) xs
  replay_joined [] ys = refl
  replay_joined (x ∷ xs) ys = ap (λ (t : Told). step sector t x.0 x.1) (replay_joined xs ys)

  -- a call that only reads, from whatever it starts
  abbrev Quiet : (Told → Told) → ℕ → List ℕ → Type 0
  Quiet does i bytes = ((t : Told) → does t ≡ after_read t i bytes) ⊎ ((t : Told) → does t ≡ after_fault t)

  abbrev by_kind : List ℕ → ℕ → ℕ → ℕ → Told → Told
  by_kind bytes i k n t =
      cond (nat_eq k 0)
      (cond (nat_eq n 4096) (after_read t i bytes) (after_fault t))
      (cond (nat_eq k 1)
      (cond (nat_eq n 4096) (after_write t i bytes) (after_torn t i))
      (cond (nat_eq k 2) (after_sync t)
      (cond (nat_eq k 3) (after_fault t)
      (after_opening sector i))))

  kind_is : (bytes : List ℕ) (i k n : ℕ) → IsTrue (nat_eq k 0 || nat_eq k 3) → Quiet (by_kind bytes i k n) i bytes
  kind_is bytes i k n is = search (rules, cases_eq k 0, cases_eq n 4096, eq-eqb, ne_eqb, cases_eq k 3, not_either)

  step_is : (call : Call) → IsTrue (nat_eq (slice_index call.0 0) 0 || nat_eq (slice_index call.0 0) 3) → Quiet (λ t. step sector t call.0 call.1) (slice_index call.0 1) call.1
  step_is call is = kind_is call.1 (slice_index call.0 1) (slice_index call.0 0) (slice_index call.0 2) is

  module _ (t : Told) where
    -- no sector is written
    abbrev Same : Told → Type 0
    Same u = (u.0 ≡ t.0) × (u.1 ≡ t.1)

    pub same_on : (calls : List Call) → IsTrue (only_reads calls) → Same (replay_on sector t calls)
    same_on [] only = (refl, refl)
    same_on (call ∷ calls) only = let had = same_on calls (second_true _ _ only) in search (rules, step_is, first_true)

    pub honest_on : (calls : List Call) → IsTrue (only_reads calls) → IsTrue (replay_on sector t calls).3 → IsTrue t.3
    honest_on [] only honest = honest
    honest_on (call ∷ calls) only honest = honest_on calls (second_true _ _ only) (search (rules, step_is, first_true))

    pub touches_on : (few : length t.0 < 2 ^ 32) (calls : List Call) → IsTrue (only_reads calls) → (few' : length (replay_on sector t calls).0 < 2 ^ 32) → IsTrue (replay_on sector t calls).3
        → Touches Nowhere (told_disk t few) (told_disk (replay_on sector t calls) few')
    touches_on few [] only few' honest = search rules
    touches_on few (call ∷ calls) only few' honest =
        let u = replay_on sector t calls in
        let v = step sector u call.0 call.1 in
        let rest = second_true _ _ only in
        let fewer : length u.0 < 2 ^ 32 = subst (λ (s : List (List ℕ)). length s < 2 ^ 32) (sym (same_on calls rest).0) few in
        let last : Touches Nowhere (told_disk u fewer) (told_disk v few') = elim (step_is call (first_true _ _ only)) [
          | inl reads ↦ read_is u fewer v few' (slice_index call.0 1) call.1 (reads u) honest
          | inr fails ↦ fault_is u fewer v few' (fails u) honest
        ] in
        touches_more Nowhere Nowhere (told_disk t few) (told_disk u fewer) (told_disk v few') (λ i none. none) (touches_on few calls rest fewer last.was_honest) last

  -- the same calls from two starts
  module _ (t s : Told) where
    pub faults_on : refused s.2 ≡ 0 → (calls : List Call) → IsTrue (only_reads calls) → refused (replay_on sector t calls).2 ≡ refused t.2 + refused (replay_on sector s calls).2
    faults_on none [] only = omega (arith, none)
    faults_on none (call ∷ calls) only = let had = faults_on none calls (second_true _ _ only) in search (rules, step_is, first_true, one_more)

    pub honest_too : ((i : ℕ) → get_or t.0 i [] ≡ get_or s.0 i []) → IsTrue s.3 → (calls : List Call) → IsTrue (only_reads calls) → IsTrue (replay_on sector t calls).3 → IsTrue (replay_on sector s calls).3
    honest_too same began [] only honest = began
    honest_too same began (call ∷ calls) only honest =
        let rest = second_true _ _ only in
        search (arith, step_is call (first_true _ _ only), honest_too same began calls rest, same_on t calls rest, same_on s calls rest, same, first_true, second_true, and_from)

pub reader_long : (sector : ℕ → List ℕ) (count : ℕ) (calls : List Call) → IsTrue (only_reads calls) → length (replay_on sector (after_sharing sector count) calls).0 ≡ count
reader_long sector count calls only = ap (λ (l : List (List ℕ)). length l) (same_on sector (after_sharing sector count) calls only).0 ∙ length_held sector 0 count

-- a reader's calls as later ones of the device
module _ (sector : ℕ → List ℕ) (t u : Told) (calls : List Call) (only : IsTrue (only_reads calls)) (is : u ≡ replay_on sector t calls) where
  pub sectors_taken : u.0 ≡ t.0
  sectors_taken = ap (λ (v : Told). v.0) is ∙ (same_on sector t calls only).0

  pub unsynced_taken : u.1 ≡ t.1
  unsynced_taken = ap (λ (v : Told). v.1) is ∙ (same_on sector t calls only).1

  pub synced_taken : (few : length t.0 < 2 ^ 32) (few' : length u.0 < 2 ^ 32) → IsSynced (told_disk t few) → IsSynced (told_disk u few')
  synced_taken few few' synced = search (rules, unsynced_taken, sectors_taken)

  honest_there : IsTrue u.3 → IsTrue (replay_on sector t calls).3
  honest_there honest = subst (λ (v : Told). IsTrue v.3) is honest

  pub honest_before : IsTrue u.3 → IsTrue t.3
  honest_before honest = honest_on sector t calls only (honest_there honest)

  pub touches_taken : (few : length t.0 < 2 ^ 32) (few' : length u.0 < 2 ^ 32) → IsTrue u.3 → Touches Nowhere (told_disk t few) (told_disk u few')
  touches_taken few few' honest = subst (λ (v : Told). (l : length v.0 < 2 ^ 32) → Touches Nowhere (told_disk t few) (told_disk v l)) (sym is)
      (λ l. touches_on sector t few calls only l (honest_there honest)) few'

  pub faults_taken : (s : Told) → refused s.2 ≡ 0 → refused u.2 ≡ refused t.2 + refused (replay_on sector s calls).2
  faults_taken s none = ap (λ (v : Told). refused v.2) is ∙ faults_on sector t s none calls only

  pub reader_taken : (count : ℕ) → IsTrue u.3 → image_of t.0 ≡ image_of (first_held sector (length t.0)) → length (replay_on sector (after_sharing sector count) calls).0 ≡ length t.0
      → IsTrue (replay_on sector (after_sharing sector count) calls).3
  reader_taken count honest reads long =
      let start = after_sharing sector count in
      let counts : length t.0 ≡ count = sym long ∙ reader_long sector count calls only in
      honest_too sector t start (λ i. ap (λ (image : Image). image i) reads ∙ ap (λ n. get_or (first_held sector n) i []) counts) refl calls only (honest_there honest)

-- one call more
module _ (sector : ℕ → List ℕ) (s : Told) (calls later : List Call) where
  abbrev before : Told
  before = replay_on sector s calls

  pub whole_more : (i got : ℕ) (bytes : List ℕ) → got ≡ 4096 → later ≡ read_call i got bytes ∷ calls → replay_on sector s later ≡ after_read before i bytes
  whole_more i got bytes whole is = ap (replay_on sector s) is ∙ whole_read sector before i got bytes whole

  pub short_more : (i got : ℕ) (bytes : List ℕ) → got ≢ 4096 → later ≡ read_call i got bytes ∷ calls → replay_on sector s later ≡ after_fault before
  short_more i got bytes short is = ap (replay_on sector s) is ∙ short_read sector before i got bytes short

  pub failed_more : later ≡ failed_call ∷ calls → replay_on sector s later ≡ after_fault before
  failed_more is = ap (replay_on sector s) is

  pub failed_touches : (i : ℕ) (few : length before.0 < 2 ^ 32) (few' : length (replay_on sector s later).0 < 2 ^ 32) → later ≡ failed_call ∷ calls → IsTrue (replay_on sector s later).3
      → Touches (Only i) (told_disk before few) (told_disk (replay_on sector s later) few')
  failed_touches i few few' is honest = search (rules, touches_wider, fault_is, failed_more)

-- a new reader of a file that is as it was opened
module _ (sector : ℕ → List ℕ) (t : Told) (few : length t.0 < 2 ^ 32) (count : ℕ) where
  abbrev Reads : Told → Type 0
  Reads v = (l : length v.0 < 2 ^ 32) → IsReader (told_disk t few) (told_disk v l)

  pub reader_is : t.0 ≡ first_held sector count → (v : Told) (few' : length v.0 < 2 ^ 32) → v ≡ after_sharing sector count → IsReader (told_disk t few) (told_disk v few')
  reader_is held v few' is = search (rules, all_synced)

  pub held_is : t.0 ≡ first_held sector count → length t.0 ≡ count → image_of t.0 ≡ image_of (first_held sector (length t.0))
  held_is held long = ap image_of (held ∙ ap (first_held sector) (sym long))

  pub synced_as_opened : t.1 ≡ replicate count false → IsSynced (told_disk t few)
  synced_as_opened clean c leaves = record { same = λ j off. leaves j (ap (λ (u : List Bool). get_or u j false) clean ∙ all_synced count j) }

-- a reader's sectors are on the disk
pub reader_synced : (sector : ℕ → List ℕ) (count : ℕ) (calls : List Call) (only : IsTrue (only_reads calls)) (few : length (replay_on sector (after_sharing sector count) calls).0 < 2 ^ 32)
    → IsSynced (told_disk (replay_on sector (after_sharing sector count) calls) few)
reader_synced sector count calls only few = search (rules, same_on, synced_taken, synced_as_opened)
