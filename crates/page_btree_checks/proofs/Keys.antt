-- Keys that were compared one by one.
use Rattle.std.{specs.{List.AllByRecursion, Ordering.{is_gt, is_lt}, Prelude.{Option, Some}, declared.cmp.Ordering.TheVariants.Less}, proofs.lemmas.Bool.cases_lt}
use Rattle.std.proofs.Common.{◌≡◌, ◌<◌, ◌≤◌, ◌+◌, ◌-◌, ℕ, zero, suc, true, false, List, [], ◌∷◌, length, get_or, inl, inr, refl, sym, ap, subst, ◌∙◌, arith, add-one}
use Rattle.{page_btree_checks.specs.Order.{lower_of, upper_of, AreParts, IsOrdered}, page_btree_gets.specs.{claim.Keys.{IsBetween, IsUnder}, node.Entries.key_at}}
use Rattle.page_btree_gets.{specs.node.claim.{Entries.Entry, Places.{key_cmp, Rises}}, proofs.Rows.{all_map, rises_cons, rises_split, wider_under}}
use Rattle.page_btree_gets.proofs.node.Laws.{less_trans, is_less, rises_at, is_lower}

-- ---- at each place
pub all_from : (F : Entry → Type 0) (es : List Entry) → ((k : ℕ) → k < length es → F (get_or es k ([], []))) → AllByRecursion F es
all_from F [] h = tt
all_from F (e ∷ es) h = (h 0 (omega arith), all_from F es (λ k lt. h (suc k) (omega arith)))

pub all_at : (F : Entry → Type 0) (es : List Entry) (k : ℕ) → k < length es → AllByRecursion F es → F (get_or es k ([], []))
all_at F [] k lt h = absurd (omega arith)
all_at F (e ∷ es) zero lt h = h.0
all_at F (e ∷ es) (suc k) lt h = all_at F es k (omega arith) h.1

pub rises_from : (es : List Entry) → ((k : ℕ) → suc k < length es → is_lt (key_cmp (key_at es k) (key_at es (suc k))) ≡ true) → Rises es
rises_from (e ∷ f ∷ es) h =
    let less = is_less (key_cmp e.0 f.0) (h 0 (omega arith)) in
    let rest : Rises (f ∷ es) = rises_from (f ∷ es) (λ k lt. h (suc k) (omega arith)) in
    rises_cons e (f ∷ es) (less, all_map (λ x. key_cmp f.0 x.0 ≡ Less) (λ x. key_cmp e.0 x.0 ≡ Less) (λ x more. less_trans e.0 f.0 x.0 less more) es (rises_split f es rest).0) rest
rises_from _ h = refl

-- ---- keys between the first and the last

from_first : (low : List ℕ) (es : List Entry) (k : ℕ) → Rises es → is_gt (key_cmp low (key_at es 0)) ≡ false → k < length es → is_gt (key_cmp low (key_at es k)) ≡ false
from_first low es zero rises first lt = first
from_first low es (suc k) rises first lt = is_lower low (key_at es 0) (key_at es (suc k)) (key_cmp low (key_at es 0)) refl first (rises_at es 0 (suc k) rises (omega arith) lt)

under_last : (high : Option (List ℕ)) (es : List Entry) (k : ℕ) → Rises es → IsUnder (key_at es (length es - 1)) high → k < length es → IsUnder (key_at es k) high
under_last high es k rises last lt = elim (cases_lt (suc k) (length es)) [
  | inl more ↦ wider_under (key_at es k) (key_at es (length es - 1)) high (rises_at es k (length es - 1) rises (omega arith) (omega arith)) last
  | inr done ↦ (let same : length es - 1 ≡ k = omega arith in subst (λ (i : ℕ). IsUnder (key_at es i) high) same last)
]

pub within_ends : (low : List ℕ) (high : Option (List ℕ)) (es : List Entry) → Rises es → IsBetween low high (key_at es 0) → IsBetween low high (key_at es (length es - 1)) → AllByRecursion (λ e. IsBetween low high e.0) es
within_ends low high es rises first last = search (all_from, from_first, under_last)

-- ---- bounds
pub lower_first : (low : List ℕ) (es : List Entry) (k : ℕ) → k ≡ 0 → low ≡ lower_of low es k
lower_first low es k none = ap (lower_of low es) (sym none)

pub lower_some : (low : List ℕ) (es : List Entry) (k : ℕ) → (k ≡ 0 → ⊥) → key_at es k ≡ lower_of low es k
lower_some low es zero off = absurd (off refl)
lower_some low es (suc k) off = refl

next_at : (high : Option (List ℕ)) (es : List Entry) (k : ℕ) → suc k < length es → Some (key_at es (suc k)) ≡ upper_of high es k
next_at high (e ∷ f ∷ es) zero lt = refl
next_at high (e ∷ f ∷ es) (suc k) lt = next_at high (f ∷ es) k (omega arith)
next_at high _ k lt = absurd (omega arith)

pub upper_some : (high : Option (List ℕ)) (es : List Entry) (k : ℕ) → k + 1 < length es → Some (key_at es (k + 1)) ≡ upper_of high es k
upper_some high es k lt = ap (λ n. Some (key_at es n)) (add-one k) ∙ next_at high es k (omega arith)

pub upper_last : (high : Option (List ℕ)) (es : List Entry) (k : ℕ) → length es ≤ k + 1 → high ≡ upper_of high es k
upper_last high [] zero le = refl
upper_last high [] (suc k) le = refl
upper_last high (e ∷ []) zero le = refl
upper_last high (e ∷ []) (suc k) le = refl
upper_last high (e ∷ f ∷ es) zero le = absurd (omega arith)
upper_last high (e ∷ f ∷ es) (suc k) le = upper_last high (f ∷ es) k (omega arith)

-- ---- order of a level
pub above_ordered : (low : List ℕ) (high : Option (List ℕ)) (d : ℕ) (es : List Entry) → (d ≡ 0 → ⊥) → IsOrdered low high d es → AreParts low high es
above_ordered low high zero es off is = absurd (off refl)
above_ordered low high (suc d) es off is = is
