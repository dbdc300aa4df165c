-- What images stand for while a commit goes on.
use Rattle.std.proofs.Common.{rules, ◌≡◌, ◌≢◌, ◌≤◌, ◌<◌, ◌+◌, ◌*◌, ◌/◌, ◌%◌, ℕ, zero, suc, Bool, true, false, List, [], ◌∷◌, length, take, ⊎_elim, refl, subst, ap, ◌∙◌, arith, get_or, cond, nat_eq, add-one, ◌-◌}
use Rattle.{std.proofs.lemmas.Bool.{cases_eq, Decides.nat_tests}, gate_journal.specs.{Recovery.{NamesPages, SectorNames}, Steps.{Span, HasList, HasCopies, want}}}
use Rattle.{gate_journal.specs.Store.{IsWithin, Writes, Homes, Stages, Staging, IsBeforeOrAfter}, sector_device.specs.{Disk.Only, claim.Disk.{Disk, Image, AgreeOff}}}
use Rattle.gate_journal.specs.claim.Store.{word, list_word, first_copy, home, gate, copies_from, copies, put, overlay, home_pages, pages, IsValid, IsStore, Opens}

-- ---- overlays
put_same : (w : ℕ × List ℕ) (P Q : Image) (p : ℕ) → (p ≢ w.0 → P p ≡ Q p) → put w P p ≡ put w Q p
put_same w P Q p same = search (rules, cases_eq, nat_tests, same)

pub put_on : (w : ℕ × List ℕ) (P : Image) (p : ℕ) → p ≡ w.0 → put w P p ≡ w.1
put_on w P p is = grind (arith, nat_tests)

pub put_off : (w : ℕ × List ℕ) (P : Image) (p : ℕ) → p ≢ w.0 → put w P p ≡ P p
put_off w P p off = grind (arith, nat_tests)

pub overlay_same : (ws : List (ℕ × List ℕ)) (P Q : Image) (p : ℕ) → ((Writes ws p → ⊥) → P p ≡ Q p) → overlay ws P p ≡ overlay ws Q p
overlay_same [] P Q p same = same (λ none. none)
overlay_same (w ∷ ws) P Q p same = overlay_same ws (put w P) (put w Q) p (λ off. put_same w P Q p (λ ne. same (λ any. ⊎_elim ne off any)))

pub overlay_off : (ws : List (ℕ × List ℕ)) (P : Image) (p : ℕ) → (Writes ws p → ⊥) → overlay ws P p ≡ P p
overlay_off [] P p off = refl
overlay_off (w ∷ ws) P p off = search (rules, overlay_off ws (put w P), put_off w P)

pub overlay_twice : (ws : List (ℕ × List ℕ)) (P : Image) (p : ℕ) → overlay ws (overlay ws P) p ≡ overlay ws P p
overlay_twice ws P p = overlay_same ws (overlay ws P) P p (λ off. overlay_off ws P p off)

-- ---- the gate
pub pages_shut : (J : ℕ) (c : Image) (p : ℕ) → gate c ≢ 165 → pages J c p ≡ home_pages J c p
unfolding pages
pages_shut J c p shut = let e : nat_eq (gate c) 165 ≡ false = grind (arith, nat_tests) in ap (λ (b : Bool). overlay (cond b (copies J c) []) (home_pages J c) p) e

pub pages_open : (J : ℕ) (c : Image) (p : ℕ) → gate c ≡ 165 → pages J c p ≡ overlay (copies J c) (home_pages J c) p
unfolding pages
pages_open J c p is = let e : nat_eq (gate c) 165 ≡ true = grind (arith, nat_tests) in ap (λ (b : Bool). overlay (cond b (copies J c) []) (home_pages J c) p) e

copies_are : (c : Image) (at k : ℕ) (ws : List (ℕ × List ℕ)) → ((j m : ℕ) → j < length ws → m ≡ k + j → list_word c (m + 1) ≡ (get_or ws j (0, [])).0) → ((j m : ℕ) → j < length ws → m ≡ at + (k + j) → c m ≡ (get_or ws j (0, [])).1) → copies_from c at k (length ws) ≡ ws
copies_are c at k [] page copy = refl
copies_are c at k (w ∷ ws) page copy =
    let first : list_word c (k + 1) ≡ w.0 = page 0 k (omega arith) (omega arith) in
    let bytes : c (at + k) ≡ w.1 = copy 0 (at + k) (omega arith) (omega arith) in
    let rest = copies_are c at (k + 1) ws (λ j m lt is. page (suc j) m (omega arith) (omega arith)) (λ j m lt is. copy (suc j) m (omega arith) (omega arith)) in
    λ i. (first i, bytes i) ∷ rest i

pub copies_staged : (J : ℕ) (ws : List (ℕ × List ℕ)) (c : Image) → Stages J ws c → copies J c ≡ ws
unfolding copies
copies_staged J ws c staged = search (rules, copies_are)

pub list_word_same : (b c : Image) (k : ℕ) → c (2 + k / 1024) ≡ b (2 + k / 1024) → list_word c k ≡ list_word b k
unfolding list_word
list_word_same b c k same = ap (λ (s : List ℕ). word s (k % 1024)) same

-- the list and the copies stay where no sector of theirs is touched
pub stages_same : (J : ℕ) (ws : List (ℕ × List ℕ)) (S : ℕ → Type 0) (b c : Image) → length ws ≤ J → ((i : ℕ) → S i → Staging J i → ⊥) → AgreeOff S b c → Stages J ws b → Stages J ws c
stages_same J ws S b c fits apart agree staged = search (rules, word_at)
  where
    word_at : (k : ℕ) → k ≤ J → list_word c k ≡ list_word b k
    word_at k le = list_word_same b c k (agree.same (2 + k / 1024) (λ s. apart (2 + k / 1024) s (omega arith, omega arith)))

-- ---- what each step may leave
gate_same : (S : ℕ → Type 0) (b c : Image) → (S 1 → ⊥) → AgreeOff S b c → gate c ≡ gate b
gate_same S b c apart agree = ap (λ (s : List ℕ). get_or s 0 0) (agree.same 1 apart)

-- an image of the same store, where the header was not touched and the list is good
pub store_same : (J n : ℕ) (S : ℕ → Type 0) (b c : Image) → (S 0 → ⊥) → AgreeOff S b c → IsStore J n b → (gate c ≡ 165 → IsValid J n c) → IsStore J n c
store_same J n S b c apart agree store list = search rules

-- a list of writes within the pages is good
pub staged_valid : (J n : ℕ) (ws : List (ℕ × List ℕ)) (c : Image) → length ws ≤ J → IsWithin ws n → Stages J ws c → IsValid J n c
staged_valid J n ws c fits within staged = search rules

-- so both stay where none of their sectors is touched
pub staged_still : (J n : ℕ) (ws : List (ℕ × List ℕ)) (S : ℕ → Type 0) (b c : Image) → length ws ≤ J → IsWithin ws n → (S 0 → ⊥) → ((i : ℕ) → S i → Staging J i → ⊥)
    → AgreeOff S b c → IsStore J n b → Stages J ws b
    → Stages J ws c × IsStore J n c
staged_still J n ws S b c fits within header apart agree store staged =
    let stages = stages_same J ws S b c fits apart agree staged in
    (stages, store_same J n S b c header agree store (λ is. staged_valid J n ws c fits within stages))

pub while_staging : (J n : ℕ) (b c : Image) → IsStore J n b → gate b ≢ 165 → AgreeOff (Staging J) b c → Opens J n (home_pages J b) c
while_staging J n b c store shut agree = search (rules, store_same, same, pages_shut)
  where
    same : gate c ≡ gate b
    same = gate_same (Staging J) b c (λ s. omega arith) agree

pub same_homes : (J : ℕ) (b c : Image) → AgreeOff (Only 1) b c → (p : ℕ) → home_pages J c p ≡ home_pages J b p
same_homes J b c agree p = agree.same (home J + p) (λ is. omega arith)

opened : (J : ℕ) (ws : List (ℕ × List ℕ)) (c : Image) (p : ℕ) → gate c ≡ 165 → Stages J ws c → pages J c p ≡ overlay ws (home_pages J c) p
opened J ws c p is staged = pages_open J c p is ∙ ap (λ (l : List (ℕ × List ℕ)). overlay l (home_pages J c) p) (copies_staged J ws c staged)

pub while_opening : (J n : ℕ) (ws : List (ℕ × List ℕ)) (b c : Image) → length ws ≤ J → IsWithin ws n → IsStore J n b → Stages J ws b → AgreeOff (Only 1) b c → IsBeforeOrAfter J n ws (home_pages J b) c
while_opening J n ws b c fits within store staged agree =
    let on = staged_still J n ws (Only 1) b c fits within (λ is. omega arith) (λ i is s. omega arith) agree store staged in
    search (rules, on, cases_eq (gate c) 165, opened J ws c, overlay_same ws (home_pages J c) (home_pages J b), same_homes J b c agree, pages_shut J c)

pub while_copying : (J n : ℕ) (ws : List (ℕ × List ℕ)) (b c : Image) → length ws ≤ J → IsWithin ws n → IsStore J n b → gate b ≡ 165 → Stages J ws b → AgreeOff (Homes (home J) ws) b c → Opens J n (overlay ws (home_pages J b)) c
while_copying J n ws b c fits within store is staged agree =
    let on = staged_still J n ws (Homes (home J) ws) b c fits within (λ s. let e = s.2 in omega arith) (λ i s t. let e = s.2 in omega arith) agree store staged in
    record {
      store = on.1;
      each = λ p.
          opened J ws c p (gate_same (Homes (home J) ws) b c (λ s. let e = s.2 in omega arith) agree ∙ is) on.0
          ∙ overlay_same ws (home_pages J c) (home_pages J b) p
          (λ off. agree.same (home J + p) (λ s. off (subst (Writes ws) (let e = s.2 in let q : s.0 ≡ p = omega arith in q) s.1)));
    }

pub while_closing : (J n : ℕ) (ws : List (ℕ × List ℕ)) (P b c : Image) → length ws ≤ J → IsWithin ws n → IsStore J n b → Stages J ws b → ((p : ℕ) → home_pages J b p ≡ overlay ws P p) → AgreeOff (Only 1) b c → Opens J n (overlay ws P) c
while_closing J n ws P b c fits within store staged homes agree =
    let on = staged_still J n ws (Only 1) b c fits within (λ is. omega arith) (λ i is s. omega arith) agree store staged in
    search (rules, on, cases_eq (gate c) 165, opened J ws c, overlay_same ws (home_pages J c) (overlay ws P), overlay_twice, same_homes J b c agree, homes, pages_shut J c)

-- ---- one write more
pub overlay_more : (ws : List (ℕ × List ℕ)) (k : ℕ) (P : Image) (p : ℕ) → k < length ws → overlay (take (k + 1) ws) P p ≡ put (get_or ws k (0, [])) (overlay (take k ws) P) p
overlay_more ws k P p lt = rw add-one (overlay_suc ws k P p lt)
  where
    overlay_suc : (ws : List (ℕ × List ℕ)) (k : ℕ) (P : Image) (p : ℕ) → k < length ws → overlay (take (suc k) ws) P p ≡ put (get_or ws k (0, [])) (overlay (take k ws) P) p
    overlay_suc [] k P p lt = absurd (omega arith)
    overlay_suc (w ∷ ws) zero P p lt = refl
    overlay_suc (w ∷ ws) (suc k) P p lt = overlay_suc ws k (put w P) p (omega arith)

-- the page that is written, and each other
pub homes_more : (at : ℕ) (ws : List (ℕ × List ℕ)) (k : ℕ) (a b c : Image) → k < length ws → ((p : ℕ) → b (at + p) ≡ overlay (take k ws) (λ q. a (at + q)) p) → AgreeOff (Only (at + (get_or ws k (0, [])).0)) b c → c (at + (get_or ws k (0, [])).0) ≡ (get_or ws k (0, [])).1
    → (p : ℕ) → c (at + p) ≡ overlay (take (k + 1) ws) (λ q. a (at + q)) p
homes_more at ws k a b c lt homes agree written p = search (rules, overlay_more, cases_eq, put_on, put_off)

pub writes_at : (ws : List (ℕ × List ℕ)) (k : ℕ) → k < length ws → Writes ws (get_or ws k (0, [])).0
writes_at [] k lt = absurd (omega arith)
writes_at (w ∷ ws) k lt = search (arith, writes_at ws)

pub list_word_at : (x : Image) (k i : ℕ) → 2 + k / 1024 ≡ i → list_word x k ≡ word (x i) (k % 1024)
unfolding list_word
list_word_at x k i at = ap (λ (n : ℕ). word (x n) (k % 1024)) at

-- one sector of the list more
pub list_more : (ws : List (ℕ × List ℕ)) (s : ℕ) (b c : Disk) → HasList ws (1024 * s) b → AgreeOff (Only (2 + s)) b.reads c.reads → ((j : ℕ) → j < 1024 → 1024 * s + j ≤ length ws → word (c.reads (2 + s)) j ≡ want ws (1024 * s + j)) → HasList ws (1024 * (s + 1)) c
list_more ws s b c has agree written k lt le = search (rules, cases_eq, list_word_at, list_word_same)

-- the list and the copies, once both are written
pub staged_by : (J : ℕ) (ws : List (ℕ × List ℕ)) (b c : Disk) → length ws ≤ J → HasList ws (length ws + 1) b → AgreeOff (Span (first_copy J) (length ws)) b.reads c.reads → HasCopies (first_copy J) ws (length ws) c → Stages J ws c.reads
staged_by J ws b c fits listed agree copied = search (rules, word_of, want_next)
  where
    word_of : (k : ℕ) → k ≤ length ws → list_word c.reads k ≡ want ws k
    word_of k le = list_word_same b.reads c.reads k (agree.same (2 + k / 1024) (λ span. omega arith)) ∙ listed k (omega arith) le

    want_next : (k : ℕ) → want ws (k + 1) ≡ (get_or ws k (0, [])).0
    want_next k = rw add-one refl

-- ---- the list, sector by sector
-- one sector more
pub names_more : (c : Image) (s count n : ℕ) (sector : List ℕ) → sector ≡ c (2 + s) → SectorNames (1024 * s) count n sector 1024 → ((k : ℕ) → k < 1024 * s → 1 ≤ k → k ≤ count → list_word c k < n)
    → (k : ℕ) → k < 1024 * (s + 1) → 1 ≤ k → k ≤ count → list_word c k < n
names_more c s count n sector is names before k lt some le = search (arith, cases_eq (k / 1024) s, list_word_at c k (2 + s), before)

pub names_of : (c : Image) (s count n : ℕ) (sector : List ℕ) → sector ≡ c (2 + s) → NamesPages count n c → SectorNames (1024 * s) count n sector 1024
names_of c s count n sector is names j lt some le = search (arith, names (1024 * s + j - 1), list_word_at c (1024 * s + j) (2 + s))
