-- Plans that hold a chunk are counted off, one more or one fewer.
use Rattle.{std.proofs.Common.{rules, ◌≡◌, ◌⊎◌, ◌<◌, ◌≤◌, ◌^◌, ℕ, zero, suc, cond, eqb, ltb, refl, sym, ap, subst, ◌∙◌, inl, inr, arith}, desk_store_rows.specs.claim.Keys.holding}
use Rattle.{std.proofs.lemmas.Bool.{cases_eq, cases_lt, lt-ltb, le-ltb, eq-eqb, ne_eqb, eqb-true, eqb-false}, desk_store_rows.specs.claim.Holders.{IsHeld, AreHolders}}
use Rattle.desk_store_rows.specs.claim.Rows.{KeyMap, row_in}

-- ---- numbers below a limit, each once, are no more than it
abbrev avoiding : (ℕ → ℕ) → ℕ → ℕ → ℕ → ℕ
avoiding f m last i = cond (eqb (f i) m) (f last) (f i)

avoids : (x m y : ℕ) → ((x ≡ m) × (cond (eqb x m) y x ≡ y)) ⊎ ((x ≡ m → ⊥) × (cond (eqb x m) y x ≡ x))
avoids x m y = search (arith, eqb-true, eqb-false)

abbrev pub IsInto : (ℕ → ℕ) → ℕ → ℕ → Type 0
IsInto f n m = (i : ℕ) → i < n → f i < m

abbrev pub IsOnce : (ℕ → ℕ) → ℕ → Type 0
IsOnce f n = (i j : ℕ) → i < n → j < n → f i ≡ f j → i ≡ j

into_less : (f : ℕ → ℕ) (n m : ℕ) → IsInto f (suc n) (suc m) → IsOnce f (suc n) → IsInto (avoiding f m n) n m
into_less f n m into once i less = search (rules, avoids)

once_less : (f : ℕ → ℕ) (n m : ℕ) → IsOnce f (suc n) → IsOnce (avoiding f m n) n
once_less f n m once i j p q e = search (arith, avoids)

pub few : (n m : ℕ) (f : ℕ → ℕ) → IsInto f n m → IsOnce f n → n ≤ m
few zero m f into once = omega arith
few (suc n) zero f into once = absurd (omega (arith, into n (omega arith)))
few (suc n) (suc m) f into once = omega (arith, few n m (avoiding f m n) (into_less f n m into once) (once_less f n m once))

pub few_holders : (m : KeyMap) (number count limit : ℕ) → AreHolders m number count → ((plan : ℕ) → plan < 2 ^ 64 → IsHeld m plan number → plan < limit) → count ≤ limit
few_holders m number count limit h below = few count limit h.plan_at (λ place less. let is = h.each place less in below (h.plan_at place) is.0 is.1) h.apart

-- the rows of a chunk's other holders stay
abbrev pub OthersHold : KeyMap → KeyMap → ℕ → ℕ → Type 0
OthersHold m n plan number = (other : ℕ) → other < 2 ^ 64 → (other ≡ plan → ⊥) → row_in n (holding other number) ≡ row_in m (holding other number)

-- ---- all stay
pub holders_moved : (m n : KeyMap) (number count : ℕ) → ((plan : ℕ) → plan < 2 ^ 64 → row_in n (holding plan number) ≡ row_in m (holding plan number)) → AreHolders m number count → AreHolders n number count
holders_moved m n number count same h = search (rules, h.each, h.all, h.apart, same)

-- ---- none
pub no_holders : (m : KeyMap) (number : ℕ) → ((plan : ℕ) → plan < 2 ^ 64 → IsHeld m plan number → ⊥) → AreHolders m number 0
no_holders m number none = record {
  plan_at = λ place. 0;
  each = λ place less. absurd (omega arith);
  all = λ plan fits held. absurd (none plan fits held);
  apart = λ a b in_a in_b same. absurd (omega arith);
}

-- ---- one more
module _ (m n : KeyMap) (plan number count : ℕ) (fits : plan < 2 ^ 64) (others : OthersHold m n plan number) (none : IsHeld m plan number → ⊥) (held : IsHeld n plan number) (h : AreHolders m number count) where
  pub holders_joined : AreHolders n number (suc count)
  holders_joined = record {
    plan_at = λ place. cond (ltb place count) (h.plan_at place) plan;
    each = λ place within. elim (cases_lt place count) [
      | inl less ↦ (let is = h.each place less in
          rw (lt-ltb place count less)
          (is.0, others (h.plan_at place) is.0 (λ same. none (subst (λ (p : ℕ). IsHeld m p number) same is.1)) ∙ is.1))
      | inr more ↦ rw (le-ltb place count more) (fits, held)
    ];
    all = λ other other_fits there. elim (cases_eq other plan) [
      | inl same ↦ (count, omega arith, rw (le-ltb count count (omega arith)) (sym same))
      | inr apart ↦ search (arith, h.all other other_fits (sym (others other other_fits apart) ∙ there), lt-ltb)
    ];
    apart = λ a b in_a in_b same. elim (cases_lt a count) [
      | inl less_a ↦ elim (cases_lt b count) [
        | inl less_b ↦ h.apart a b less_a less_b (rw (lt-ltb a count less_a, lt-ltb b count less_b) at same)
        | inr more_b ↦ absurd (none (subst (λ (p : ℕ). IsHeld m p number) (rw (lt-ltb a count less_a, le-ltb b count more_b) at same) (h.each a less_a).1))
      ]
      | inr more_a ↦ elim (cases_lt b count) [
        | inl less_b ↦ absurd (none (subst (λ (p : ℕ). IsHeld m p number) (sym (rw (le-ltb a count more_a, lt-ltb b count less_b) at same)) (h.each b less_b).1))
        | inr more_b ↦ omega arith
      ]
    ];
  }

-- ---- one fewer: the last one takes its place
abbrev left_at : (ℕ → ℕ) → ℕ → ℕ → ℕ → ℕ
left_at plan_at gone last place = cond (eqb place gone) (plan_at last) (plan_at place)

module _ (m n : KeyMap) (plan number count gone : ℕ) (others : OthersHold m n plan number) (none : IsHeld n plan number → ⊥) (h : AreHolders m number (suc count)) (in_gone : gone < suc count) (is_gone : h.plan_at gone ≡ plan) where
  stays_at : (place : ℕ) → place < suc count → (place ≡ gone → ⊥) → (h.plan_at place < 2 ^ 64) × IsHeld n (h.plan_at place) number
  stays_at place less apart = let is = h.each place less in (is.0, others (h.plan_at place) is.0 (λ same. apart (h.apart place gone less in_gone (same ∙ sym is_gone))) ∙ is.1)

  -- the place of a plan that still holds it
  place_left : (other place : ℕ) → place < suc count → h.plan_at place ≡ other → (place ≡ gone → ⊥) → (there : ℕ) × (there < count) × (left_at h.plan_at gone count there ≡ other)
  place_left other place less is apart =
      let here : left_at h.plan_at gone count place ≡ h.plan_at place = rw (ne_eqb place gone apart) refl in
      let moved : left_at h.plan_at gone count gone ≡ h.plan_at count = rw (eq-eqb gone gone refl) refl in
      search (arith, cases_lt place count, here, cases_lt gone count, moved)

  last_apart : (a : ℕ) → a < count → h.plan_at count ≡ h.plan_at a → ⊥
  last_apart a less same = let last = h.apart count a (omega arith) (omega arith) same in absurd (omega arith)

  holders_left_at : AreHolders n number count
  holders_left_at = record {
    plan_at = left_at h.plan_at gone count;
    each = λ place less. elim (cases_eq place gone) [
      | inl same ↦ rw (eq-eqb place gone same) (stays_at count (omega arith) (λ last. absurd (omega arith)))
      | inr apart ↦ rw (ne_eqb place gone apart) (stays_at place (omega arith) apart)
    ];
    all = λ other other_fits there.
        let not_plan : other ≡ plan → ⊥ = λ same. none (subst (λ (p : ℕ). IsHeld n p number) same there) in
        let (place, less, is) = h.all other other_fits (sym (others other other_fits not_plan) ∙ there) in
        place_left other place less is (λ same. not_plan (sym is ∙ ap h.plan_at same ∙ is_gone));
    apart = λ a b in_a in_b same. elim (cases_eq a gone) [
      | inl is_a ↦ elim (cases_eq b gone) [
        | inl is_b ↦ is_a ∙ sym is_b
        | inr not_b ↦ absurd (last_apart b in_b (rw (eq-eqb a gone is_a, ne_eqb b gone not_b) at same))
      ]
      | inr not_a ↦ elim (cases_eq b gone) [
        | inl is_b ↦ absurd (last_apart a in_a (sym (rw (ne_eqb a gone not_a, eq-eqb b gone is_b) at same)))
        | inr not_b ↦ h.apart a b (omega arith) (omega arith) (rw (ne_eqb a gone not_a, ne_eqb b gone not_b) at same)
      ]
    ];
  }

pub holders_left : (m n : KeyMap) (plan number count : ℕ) → plan < 2 ^ 64 → OthersHold m n plan number → IsHeld m plan number → (IsHeld n plan number → ⊥) → AreHolders m number (suc count) → AreHolders n number count
holders_left m n plan number count fits others held none h = search (h.all plan fits held, holders_left_at)
