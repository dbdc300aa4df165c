-- Chains of pages.
use Rattle.std.specs.{Bool.Decides, Int.{w32, from_be_bytes}, List.{AllByRecursion, IsDistinct, list_any}, Prelude.{Option, Some, None, MatchOption}}
use Rattle.std.proofs.Common.{rules, ⊎_elim, cond, nat_eq, ◌*◌, ◌⊎◌, replicate, get_or, Bool, true, false, ◌-◌, ◌≡◌, ◌≢◌, ◌<◌, ◌+◌, ℕ, zero, suc, List, [], ◌∷◌, length, inl, inr, refl, sym, ap, subst, ◌∙◌, arith, add-one}
use Rattle.{std.proofs.lemmas.{Bool.{cases_eq, cases_Bool, ne_eqb, Decides.{Decides-like, Decides-below_and, Decides-eqb}}, List.get_or-replicate}, page_store.specs.Chain.IsMeta}
use Rattle.{std.proofs.lemmas.Map.Steps.length-le_from_distinct_below, gate_journal.specs.{Writes.IsEdited, claim.{Store.{word, put, overlay}, Writes.writes_of}}}
use Rattle.{gate_journal.specs.declared.writes.PageWrites.PageWrites, page_store.specs.claim.Chain.{are_zero, is_blank, chain, free_in, IsIn, AreFree, IsPages}}
use Rattle.{sector_device.specs.claim.Disk.Image, gate_journal.proofs.Images.{put_on, put_off}}
use lib.Dec.{eqb}

-- ---- pages without bytes but those of a link
zeros_decide : (page : List ℕ) (n : ℕ) → Decides (are_zero page n) ((k : ℕ) → 0 < k → k < n + 1 → word page k ≡ 0)
zeros_decide page n = Decides-like {P = (k : ℕ) → k < n → word page (suc k) ≡ 0} {Q = (k : ℕ) → 0 < k → k < n + 1 → word page k ≡ 0} (are_zero page n)
    (λ all k some lt. subst (λ (j : ℕ). word page j ≡ 0) (omega arith) (all (k - 1) (omega arith))) (λ all k lt. all (suc k) (omega arith) (omega arith))
    (Decides-below_and (λ k. nat_eq (word page (suc k)) 0) (λ k. word page (suc k) ≡ 0) (are_zero page) (λ k. Decides-eqb (word page (suc k)) 0) refl (λ _. refl) n)

pub blank_decides : (page : List ℕ) → Decides (is_blank page) ((k : ℕ) → 0 < k → k < 1024 → word page k ≡ 0)
unfolding is_blank
blank_decides page = zeros_decide page 1023

pub blank_words : (page : List ℕ) → is_blank page ≡ true → (k : ℕ) → 0 < k → k < 1024 → word page k ≡ 0
blank_words page = (blank_decides page).0

pub either : (b : Bool) → (b ≡ true) ⊎ (b ≡ false)
either = cases_Bool

zero_word : (k : ℕ) → k < 1024 → word (replicate 4096 0) k ≡ 0
zero_word k lt =
    let z : (j : ℕ) → j < 4096 → get_or {A = ℕ} (replicate 4096 0) j 0 ≡ 0 = λ j less. get_or-replicate {A = ℕ} 4096 j 0 0 less in
    λ i. from_be_bytes w32 (z (4 * k) (omega arith) i ∷ z (4 * k + 1) (omega arith) i ∷ z (4 * k + 2) (omega arith) i ∷ z (4 * k + 3) (omega arith) i ∷ [])

-- a link alone, written over zeros
pub link_blank : (page : List ℕ) → ((k : ℕ) → k ≢ 0 → word page k ≡ word (replicate 4096 0) k) → is_blank page ≡ true
link_blank page others = (blank_decides page).1 (λ k some lt. others k (λ none. omega arith) ∙ zero_word k lt)

-- one that counts is blank, and itself
is_counted : (b : Bool) (q : ℕ) → 0 < cond b q 0 → b ≡ true
is_counted b q some = search arith

pub counts : (b : Bool) (q : ℕ) → b ≡ true → cond b q 0 ≡ q
counts b q is = search is

pub first_blank : (n : ℕ) (P : Image) (first count : ℕ) → 0 < count → AreFree n (chain P first count) → is_blank (P first) ≡ true
first_blank n P first zero some free = absurd (omega arith)
first_blank n P first (suc count) some free = is_counted (is_blank (P first)) first free.0

pub both_ways : (b : Bool) → b ≡ true → b ≡ false → ⊥
both_ways b is other = cc

-- ---- chains
pub length_chain : (P : Image) (first count : ℕ) → length (chain P first count) ≡ count
length_chain P first zero = refl
length_chain P first (suc count) = let rest = length_chain P (word (P first) 0) count in omega (arith, rest)

-- a chain of free pages stays where its pages do
pub chain_kept : (n : ℕ) (P Q : Image) (first count : ℕ) → AreFree n (chain P first count) → ((q : ℕ) → IsIn q (chain P first count) → Q q ≡ P q)
    → chain Q first count ≡ chain P first count
chain_kept n P Q first zero free same = refl
chain_kept n P Q first (suc count) free same =
    let page : Q first ≡ P first = same first (inl (sym (counts (is_blank (P first)) first (first_blank n P first (suc count) (omega arith) free)))) in
    let here : cond (is_blank (Q first)) first 0 ≡ cond (is_blank (P first)) first 0 = ap (λ (s : List ℕ). cond (is_blank s) first 0) page in
    let rest = ap (λ (s : List ℕ). chain Q (word s 0) count) page ∙ chain_kept n P Q (word (P first) 0) count free.3 (λ q there. same q (inr there)) in
    λ i. here i ∷ rest i

pub chain_put : (n : ℕ) (P Q : Image) (p : ℕ) (bytes : List ℕ) (first count : ℕ) → ((q : ℕ) → Q q ≡ put (p, bytes) P q) → AreFree n (chain P first count) → (IsIn p (chain P first count) → ⊥) → chain Q first count ≡ chain P first count
chain_put n P Q p bytes first count is free off = search (rules, chain_kept n P Q, put_off (p, bytes) P)

-- a page is taken from the start
pub chain_pop : (P : Image) (first next count : ℕ) → 0 < count → is_blank (P first) ≡ true → (count ≢ 1 → next ≡ word (P first) 0) → chain P first count ≡ first ∷ chain P next (count - 1)
chain_pop P first next (suc (suc count)) some blank is =
    let less : suc (suc count) - 1 ≡ suc count = omega arith in
    let link : word (P first) 0 ≡ next = sym (is (λ e. omega arith)) in
    search (less, link, counts)
chain_pop P first next (suc zero) some blank is = ap (λ (q : ℕ). q ∷ []) (counts (is_blank (P first)) first blank)
chain_pop P first next zero some blank is = absurd (omega arith)

-- ---- free pages
pub below_free : (n : ℕ) (qs : List ℕ) (q : ℕ) → AreFree n qs → IsIn q qs → (0 < q) × (q < n)
below_free n (p ∷ qs) q free there = search (arith, below_free n qs q)
below_free n [] q free there = absurd there

pub not_meta : (n : ℕ) (qs : List ℕ) → AreFree n qs → IsIn 0 qs → ⊥
not_meta n qs free there = search (arith, below_free n qs 0 free there)

differ : (x : ℕ) (ys : List ℕ) → (IsIn x ys → ⊥) → AllByRecursion (λ y. eqb x y ≡ false) ys
differ x [] off = tt
differ x (y ∷ ys) off = (ne_eqb x y (λ e. off (inl e)), differ x ys (λ there. off (inr there)))

distinct : (n : ℕ) (qs : List ℕ) → AreFree n qs → IsDistinct eqb qs
unfolding IsDistinct
distinct n [] free = tt
distinct n (q ∷ qs) free = (differ q qs free.2, distinct n qs free.3)

is_in : (q : ℕ) (qs : List ℕ) → list_any (eqb q) qs ≡ true → IsIn q qs
is_in q (p ∷ qs) is = search (rules, cases_eq q p, is_in q qs, ne_eqb)
is_in q [] is = cc

-- there is room for one more
pub room_left : (n p : ℕ) (qs : List ℕ) → 0 < p → p < n → AreFree n qs → (IsIn p qs → ⊥) → length qs + 1 < n
unfolding IsDistinct
room_left n p qs some lt free off =
    let apart : IsDistinct eqb (0 ∷ p ∷ qs) = (differ 0 (p ∷ qs) (λ there. ⊎_elim (λ e. omega arith) (λ deep. not_meta n qs free deep) there), (differ p qs off, distinct n qs free)) in
    let all : (q : ℕ) → list_any (eqb q) (0 ∷ p ∷ qs) ≡ true → q < n = λ q is. ⊎_elim (λ e. omega arith) (λ there. ⊎_elim (λ e. omega arith) (λ deep. (below_free n qs q free deep).1) there) (is_in q (0 ∷ p ∷ qs) is) in
    let le = length-le_from_distinct_below (0 ∷ p ∷ qs) n apart all in
    omega arith

-- ---- the meta page
-- a page with these words, written one after another
pub meta_words : (s t u : List ℕ) (root first count : ℕ) → word s 0 ≡ root → word t 1 ≡ first → word u 2 ≡ count → ((k : ℕ) → k ≢ 1 → word t k ≡ word s k)
    → ((k : ℕ) → k ≢ 2 → word u k ≡ word t k)
    → (Q : Image) → Q 0 ≡ u → IsMeta Q root first count
meta_words s t u root first count root_is first_is count_is second third Q at = search (arith, third 0, second 0, third 1)

-- the chain that such a page begins
pub free_is : (Q : Image) (root first count : ℕ) → IsMeta Q root first count → free_in Q ≡ chain Q first count
free_is Q root first count meta = ap (λ (f : ℕ). chain Q f (word (Q 0) 2)) meta.first_is ∙ ap (λ (k : ℕ). chain Q first k) meta.count_is

pub meta_free : (n : ℕ) (P Q : Image) (page : List ℕ) (root first count : ℕ) → ((q : ℕ) → Q q ≡ put (0, page) P q) → IsMeta Q root first count
    → AreFree n (chain P first count) → free_in Q ≡ chain P first count
meta_free n P Q page root first count is meta free = free_is Q root first count meta ∙ chain_put n P Q 0 page first count is free (not_meta n (chain P first count) free)

pub meta_pages : (n : ℕ) (Q : Image) (root first count : ℕ) (qs : List ℕ) → IsMeta Q root first count → root < n → first < n → count < n → free_in Q ≡ qs → AreFree n qs
    → IsPages n Q
meta_pages n Q root first count qs meta root_lt first_lt count_lt is free = search arith

-- a page is put at the start
pub chain_push : (n : ℕ) (P Q : Image) (p : ℕ) (link : List ℕ) (first count : ℕ) → ((q : ℕ) → Q q ≡ put (p, link) P q) → word link 0 ≡ first → is_blank link ≡ true
    → AreFree n (chain P first count) → (IsIn p (chain P first count) → ⊥) → chain Q p (count + 1) ≡ p ∷ chain P first count
chain_push n P Q p link first count is first_is blank free off = search (rules, put_on (p, link) P p refl, counts, chain_put n P Q p link first count is free off, add-one)

-- the second page of a chain of free pages
pub second_below : (n : ℕ) (P : Image) (first count : ℕ) → 1 < count → AreFree n (chain P first count) → word (P first) 0 < n
second_below n P first (suc (suc count)) more free = search (rules, counts, is_counted)
second_below n P first _ more free = absurd (omega arith)

-- a page that isn't free was changed, or none
pub edited_free : {R : Type 0} (told : Option R) (A : Type 0) (B : Type 0) (step : List ℕ → R → List ℕ → Type 0) (old new : PageWrites) (p first count : ℕ) → MatchOption told (A × (new ≡ old)) (λ r. B × IsEdited step r (writes_of old) (writes_of new) p)
    → (P : Image) (n : ℕ) → AreFree n (chain (overlay (writes_of old) P) first count) → (IsIn p (chain (overlay (writes_of old) P) first count) → ⊥)
    → chain (overlay (writes_of new) P) first count ≡ chain (overlay (writes_of old) P) first count
edited_free None A B step old new p first count is P n free off = ap (λ w. chain (overlay (writes_of w) P) first count) is.1
edited_free (Some r) A B step old new p first count is P n free off = chain_put n (overlay (writes_of old) P) _ p is.1.after first count (is.1.put_is P) free off
