-- What a stop leaves in each step of a commit.
use Rattle.std.proofs.Common.{rules, Result, Ok, OnOk, ◌≡◌, ◌≢◌, ◌≤◌, ◌<◌, ◌+◌, ℕ, zero, suc, List, [], length, take, get_or, ◌/◌, inl, inr, refl, sym, subst, ap, ◌∙◌, arith}
use Rattle.gate_journal.specs.{Recovery.CopiesBack, Steps.{HasGate, HasHomes, IsStaged, IsHome}, Store.{IsWithin, Homes, Stages, Staging, IsBeforeOrAfter, IsSettled}}
use Rattle.gate_journal.specs.claim.Store.{first_copy, list_word, copies_from, copies, home, gate, overlay, home_pages, pages, IsStore, Opens}
use Rattle.sector_device.specs.{Disk.{Only, IsSynced, HasCause, Step}, claim.{Disk.{Disk, Image, AgreeOff, Nowhere, Touches}, Moments.LeavesOnly}}
use Rattle.gate_journal.proofs.Images.{pages_shut, pages_open, staged_still, store_same, staged_valid, while_staging, while_opening, while_copying, while_closing, same_homes, list_word_same, writes_at, homes_more}
use Rattle.sector_device.proofs.Moments.{leaves_from, leaves_more, leaves_wider, touches_more, then_sync}

-- where the gate is closed, the pages are the home pages
pub shut_pages : (J : ℕ) (c : Image) → gate c ≢ 165 → home_pages J c ≡ pages J c
shut_pages J c shut = λ i p. (sym (pages_shut J c p shut)) i

zero_shut : (c : Image) → gate c ≡ 0 → gate c ≢ 165
zero_shut c shut is = omega arith

-- where it is, and only what is staged was touched, an image stands for the same pages
while_settled : (J n : ℕ) (a : Disk) → IsSettled J n a → (c : Image) → AgreeOff (Staging J) a.reads c → Opens J n (pages J a.reads) c
while_settled J n a settled c agree = subst (λ (X : Image). Opens J n X c) (shut_pages J a.reads settled.closed) (while_staging J n a.reads c settled.store settled.closed agree)

-- ---- from an open gate on, whether a commit opened it or it was found so
-- the gate is open over a staged list, with which the pages are these
pub record IsOpen (J n : ℕ) (ws : List (ℕ × List ℕ)) (P : Image) (a : Disk) : Type 0 where
  pub fits : length ws ≤ J
  pub within : IsWithin ws n
  pub store : IsStore J n a.reads
  pub is_open : HasGate 165 a
  pub staged : Stages J ws a.reads
  pub are : overlay ws (home_pages J a.reads) ≡ P

module _ {J n : ℕ} {ws : List (ℕ × List ℕ)} {P : Image} {a : Disk} (found : IsOpen J n ws P a) where
  pub home_leaves : (b : Disk) → Touches (Homes (home J) ws) a b → LeavesOnly (Opens J n P) a b
  home_leaves b ab = leaves_from (Opens J n P) (Homes (home J) ws) a b found.is_open.synced ab (λ x agree.
      subst (λ (X : Image). Opens J n X x) found.are (while_copying J n ws a.reads x found.fits found.within found.store found.is_open.stands found.staged agree))

  module _ (b c : Disk) (ab : Touches (Homes (home J) ws) a b) (at_home : IsHome (home J) ws a b) (bc : Touches (Only 1) b c) where
    still : Stages J ws b.reads × IsStore J n b.reads
    still = search (arith, staged_still J n ws (Homes (home J) ws) a.reads b.reads found.fits found.within)

    pub close_leaves : LeavesOnly (Opens J n P) a c
    close_leaves = leaves_more (Opens J n P) a b c (home_leaves b ab) (leaves_from (Opens J n P) (Only 1) b c at_home.synced bc (λ x agree.
        subst (λ (X : Image). Opens J n X x) found.are (while_closing J n ws (home_pages J a.reads) b.reads x found.fits found.within still.1 still.0 at_home.homes agree)))

    pub closed_pages : HasGate 0 c → pages J c.reads ≡ P
    closed_pages shut = sym (shut_pages J c.reads (zero_shut c.reads shut.stands)) ∙ (λ i p. (same_homes J b.reads c.reads bc.reads p ∙ at_home.homes p) i) ∙ found.are

    pub closed_settled : HasGate 0 c → IsSettled J n c
    closed_settled shut =
        let on = staged_still J n ws (Only 1) b.reads c.reads found.fits found.within (λ is. omega arith) (λ i is s. omega arith) bc.reads still.1 still.0 in
        record { store = on.1; closed = zero_shut c.reads shut.stands; synced = shut.synced }

-- ---- a commit: after each step, what a stop since the first may have left
pub after_stage : (J n : ℕ) (ws : List (ℕ × List ℕ)) (a b : Disk) → IsSettled J n a → Touches (Staging J) a b → LeavesOnly (IsBeforeOrAfter J n ws (pages J a.reads)) a b
after_stage J n ws a b settled ab = leaves_from (IsBeforeOrAfter J n ws (pages J a.reads)) (Staging J) a b settled.synced ab (λ c agree. inl (while_settled J n a settled c agree))

module _ (J n : ℕ) (ws : List (ℕ × List ℕ)) (fits : length ws ≤ J) (within : IsWithin ws n) (a b c : Disk) where
  module _ (settled : IsSettled J n a) (ab : Touches (Staging J) a b) (staged : IsStaged J ws b) (bc : Touches (Only 1) b c) where
    abbrev pub Q : Image → Type 0
    Q = IsBeforeOrAfter J n ws (pages J a.reads)

    homes : home_pages J b.reads ≡ pages J a.reads
    homes = (λ i p. ab.reads.same (home J + p) (λ s. omega arith) i) ∙ shut_pages J a.reads settled.closed

    store : IsStore J n b.reads
    store = store_same J n (Staging J) a.reads b.reads (λ s. omega arith) ab.reads settled.store (λ is. staged_valid J n ws b.reads fits within staged.stages)

    pub after_gate : LeavesOnly Q a c
    after_gate = leaves_more Q a b c (after_stage J n ws a b settled ab) (leaves_from Q (Only 1) b c staged.synced bc (λ x agree.
        subst (λ (X : Image). IsBeforeOrAfter J n ws X x) homes (while_opening J n ws b.reads x fits within store staged.stages agree)))

    pub gate_opened : HasGate 165 c → IsOpen J n ws (overlay ws (pages J a.reads)) c
    gate_opened is_open =
        let on = staged_still J n ws (Only 1) b.reads c.reads fits within (λ is. omega arith) (λ i is s. omega arith) bc.reads store staged.stages in
        let are : overlay ws (home_pages J c.reads) ≡ overlay ws (pages J a.reads) = ap (overlay ws) ((λ i p. same_homes J b.reads c.reads bc.reads p i) ∙ homes) in
        search (rules, fits, within, on, are)

    pub after_more : (d : Disk) → LeavesOnly (Opens J n (overlay ws (pages J a.reads))) c d → LeavesOnly Q a d
    after_more d cd = leaves_more Q a c d after_gate (leaves_wider (Opens J n (overlay ws (pages J a.reads))) Q c d (λ x opens. inr opens) cd)

-- what each image that a stop may leave stands for
pub settled_opens : (J n : ℕ) (a : Disk) → IsSettled J n a → (c : Image) → a.leaves c → Opens J n (pages J a.reads) c
settled_opens J n a settled c leaves = while_settled J n a settled c (record { same = λ i off. (settled.synced c leaves).same i (λ none. none) })

-- ---- recovery: the writes are those that the image has
pub copies_stage : (J : ℕ) (c : Image) → Stages J (copies J c) c
unfolding copies
copies_stage J c = copies_from_stage (list_word c 0) refl
  where
    long : (at k n : ℕ) → length (copies_from c at k n) ≡ n
    long at k zero = refl
    long at k (suc n) = omega (arith, long at (k + 1) n)

    nth : (at k n j : ℕ) → j < n → get_or (copies_from c at k n) j (0, []) ≡ (list_word c (k + j + 1), c (at + (k + j)))
    nth at k zero j lt = absurd (omega arith)
    nth at k (suc n) j lt = search (arith, nth at (k + 1) n)

    copies_from_stage : (n : ℕ) → n ≡ list_word c 0 → Stages J (copies_from c (first_copy J) 0 n) c
    copies_from_stage n is = search (rules, long, nth)

module _ (J : ℕ) (a : Disk) where
  abbrev ws : List (ℕ × List ℕ)
  ws = copies J a.reads

  pub count_is : length ws ≡ list_word a.reads 0
  count_is = sym (copies_stage J a.reads).count

  -- where only home sectors were touched, the list and the copies are as they were
  pub entry_same : (b : Disk) (k : ℕ) → k ≤ J → Touches (Homes (home J) ws) a b → list_word b.reads k ≡ list_word a.reads k
  entry_same b k le ab = list_word_same a.reads b.reads k (ab.reads.same (2 + k / 1024) (λ s. let e = s.2 in omega arith))

  -- the k-th copy is brought home, or that failed
  pub back_more : (b c d : Disk) (k page : ℕ) → list_word a.reads 0 ≤ J → k < list_word a.reads 0 → Touches (Homes (home J) ws) a b
      → Touches Nowhere b c → page ≡ list_word b.reads (k + 1) → Touches (Only (home J + page)) c d
      → Touches (Homes (home J) ws) a d × (HasHomes (home J) (take k ws) a b → d.reads (home J + page) ≡ c.reads (first_copy J + k) → HasHomes (home J) (take (k + 1) ws) a d)
  back_more b c d k page fits lt ab bc is cd =
      let below : k < length ws = omega (arith, count_is) in
      let w = get_or ws k (0, []) in
      let page_is : page ≡ w.0 = is ∙ entry_same b (k + 1) (omega arith) ab ∙ (copies_stage J a.reads).page k below in
      let within : (i : ℕ) → i ≡ home J + page → Homes (home J) ws i = λ i at. (w.0, writes_at ws k below, let e : i ≡ home J + w.0 = omega arith in e) in (
        touches_more (Homes (home J) ws) (Only (home J + page)) a c d within (touches_more (Homes (home J) ws) Nowhere a b c (λ i none. absurd none) ab bc) cd,
        λ homes copied.
            let copy = ab.reads.same (first_copy J + k) (λ s. let e = s.2 in omega arith) ∙ (copies_stage J a.reads).copy k below in
            let bytes : d.reads (home J + page) ≡ w.1 = copied ∙ bc.reads.same (first_copy J + k) (λ none. none) ∙ copy in
            homes_more (home J) ws k a.reads c.reads d.reads below (λ p. bc.reads.same (home J + p) (λ none. none) ∙ homes p)
            (subst (λ (q : ℕ). AgreeOff (Only (home J + q)) c.reads d.reads) page_is cd.reads) (subst (λ (q : ℕ). d.reads (home J + q) ≡ w.1) page_is bytes),
      )

-- the copies were brought home, and then all was put on the disk
pub brought_home : {T U E : Type 0} (J : ℕ) (a b d : Disk) (x : T) (r : Result U E) → CopiesBack J a b (Ok x) → Touches Nowhere b d × HasCause b d r → OnOk r (IsSynced d)
    → Step (Homes (home J) (copies J a.reads)) (IsHome (home J) (copies J a.reads) a) a d r
brought_home J a b d x r back s synced =
    then_sync (Homes (home J) (copies J a.reads)) (IsHome (home J) (copies J a.reads) a) a b d r back.touches back.cause.passed s.0 s.1 synced
    (λ on_disk. record { homes = λ p. s.0.reads.same (home J + p) (λ none. none) ∙ back.done p; synced = on_disk })

-- an opening finds the gate open
pub found_open : (J n : ℕ) (a : Disk) → IsStore J n a.reads → IsSynced a → gate a.reads ≡ 165 → IsOpen J n (copies J a.reads) (pages J a.reads) a
found_open J n a store synced is_open =
    let stand = copies_stage J a.reads in
    let valid = store.list is_open in
    let are : overlay (copies J a.reads) (home_pages J a.reads) ≡ pages J a.reads = λ i p. (sym (pages_open J a.reads p is_open)) i in
    search (arith, count_is J a, valid.count, valid.each, stand, are)
