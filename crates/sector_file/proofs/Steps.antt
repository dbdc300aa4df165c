use Rattle.std.proofs.Common.{◌≡◌, ◌≢◌, ◌<◌, ◌+◌, ℕ, zero, suc, Bool, length, get_or, get_or-set_other, true, List, [], ◌∷◌, refl, ap, subst, inl, inr, nat_eq, arith, IsTrue, ◌&&◌, rules}
use Rattle.std.proofs.lemmas.{Bool.{and_parts, cases_eq, cond-false, cond-true, eq-eqb, ne_eqb, false≢true, Decides.nat_tests}, List.length-set}
use Rattle.sector_file.specs.{Recalled.Recalls, Told.{Told, same_bytes, held_from, after_opening, step, after_read, after_fault, after_write, after_torn}}
use Rattle.sector_file.specs.declared.recent.Recent.{Recent}

pub bytes_same : (h : Bool) (xs ys : List ℕ) → IsTrue (h && same_bytes xs ys) → xs ≡ ys
bytes_same true [] [] is = refl
bytes_same true (x ∷ xs) (y ∷ ys) is = elim (cases_eq x y) [
  | inl e ↦
      let yes : nat_eq x y ≡ true = grind (arith, nat_tests) in
      let rest = bytes_same true xs ys (subst (λ b. IsTrue (b && same_bytes xs ys)) yes is) in
      λ i. e i ∷ rest i
  | inr ne ↦ search (rules, nat_eq, nat_tests, false≢true)
]
bytes_same _ _ _ is = absurd (false≢true is)

pub first_true : (a b : Bool) → IsTrue (a && b) → IsTrue a
first_true a b is = (and_parts a b is).0

-- a sector that was read is recalled
pub recalled_read : (t u : Told) (i : ℕ) (bytes : List ℕ) (old new : Recent) → u ≡ after_read t i bytes → (IsTrue t.3 → Recalls old t.0) → ((sectors : List (List ℕ)) → Recalls old sectors → get_or sectors i [] ≡ bytes → Recalls new sectors) → IsTrue u.3 → Recalls new u.0
recalled_read t u i bytes old new is had noted honest = search (rules, first_true, bytes_same)

-- after a write of a sector, whole or not, others are recalled
module _ (t u : Told) (i n : ℕ) (bytes : List ℕ) (whole : n ≡ 4096 → u ≡ after_write t i bytes) (torn : n ≢ 4096 → u ≡ after_torn t i) where
  pub length_wrote : length u.0 ≡ length t.0
  length_wrote = search (rules, cases_eq, length-set)

  others_are : (j : ℕ) → j ≢ i → get_or u.0 j [] ≡ get_or t.0 j []
  others_are j off = search (rules, cases_eq, get_or-set_other)

  was_honest : IsTrue u.3 → IsTrue t.3
  was_honest honest = search (rules, cases_eq)

  pub recalled_wrote : (old new : Recent) → (IsTrue t.3 → Recalls old t.0)
      → ((before after : List (List ℕ)) → ((j : ℕ) → j ≢ i → get_or after j [] ≡ get_or before j []) → Recalls old before → Recalls new after)
      → IsTrue u.3 → Recalls new u.0
  recalled_wrote old new had forgot honest = forgot t.0 u.0 others_are (had (was_honest honest))

module _ (sector : ℕ → List ℕ) where
  pub length_held : (from count : ℕ) → length (held_from sector from count) ≡ count
  length_held from zero = refl
  length_held from (suc n) = ap suc (length_held (from + 1) n)

  held_at : (from count i : ℕ) → i < count → get_or (held_from sector from count) i [] ≡ sector (from + i)
  held_at from zero i less = absurd (omega (arith, less))
  held_at from (suc n) i less = search (arith, held_at (from + 1) n)

  pub first_at : (t : Told) (count : ℕ) → t ≡ after_opening sector count → (i : ℕ) → i < count → get_or t.0 i [] ≡ sector i
  first_at t count is i less = search (rules, held_at)

module _ (sector : ℕ → List ℕ) (t : Told) (i n : ℕ) (bytes : List ℕ) where
  pub whole_read : n ≡ 4096 → step sector t (0 ∷ i ∷ n ∷ []) bytes ≡ after_read t i bytes
  whole_read is = cond-true (nat_eq n 4096) (after_read t i bytes) (after_fault t) (eq-eqb n 4096 is)

  pub short_read : n ≢ 4096 → step sector t (0 ∷ i ∷ n ∷ []) bytes ≡ after_fault t
  short_read is = cond-false (nat_eq n 4096) (after_read t i bytes) (after_fault t) (ne_eqb n 4096 is)

  pub whole_write : n ≡ 4096 → step sector t (1 ∷ i ∷ n ∷ []) bytes ≡ after_write t i bytes
  whole_write is = cond-true (nat_eq n 4096) (after_write t i bytes) (after_torn t i) (eq-eqb n 4096 is)

  pub torn_write : n ≢ 4096 → step sector t (1 ∷ i ∷ n ∷ []) bytes ≡ after_torn t i
  torn_write is = cond-false (nat_eq n 4096) (after_write t i bytes) (after_torn t i) (ne_eqb n 4096 is)
