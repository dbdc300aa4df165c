-- Trees that point down, under a shorter way and under a joined root.
use Rattle.std.proofs.{Common.{◌≡◌, ◌≢◌, ℕ, ◌<◌, ◌≤◌, cond, eqb, List, length, get_or, set, min, max, sym, ap, ◌∙◌, arith, eq-eqb, ne_eqb, rules}, lemmas.Bool.cases_eq}
use Rattle.{std.proofs.lemmas.List.{length-set, get_or-set_same, get_or-set_other}, audit_contiguity.specs.Forest.{PointsDown, IsRooting, IsRootOf, merged}}

-- so far from a block: the roots are those that were, and this place has the block's
pub record IsClimb (old : List ℕ) (block : ℕ) (parents : List ℕ) (at : ℕ) : Type 0 where
  pub inside : at < length parents
  pub long : length parents ≡ length old
  pub down : PointsDown parents
  pub rooting : (root : ℕ → ℕ) → IsRooting root old → IsRooting root parents
  pub root : (root : ℕ → ℕ) → IsRooting root old → root at ≡ root block

-- what a place holds after a write
written : (parents : List ℕ) (at value i : ℕ) → at < length parents → (P : ℕ → Type 0) → (i ≡ at → P value) → (i ≢ at → P (get_or parents i 0)) → P (get_or (set parents at value) i 0)
written parents at value i inside P same other = search (rules, get_or-set_same, get_or-set_other, cases_eq)

-- one function for another that is the same at each block
pub same_rooting : (root other : ℕ → ℕ) (parents : List ℕ) → ((i : ℕ) → other i ≡ root i) → IsRooting root parents → IsRooting other parents
same_rooting root other parents same was = search rules

-- one root is hung on a lower one
pub linked : (root : ℕ → ℕ) (parents : List ℕ) (low high : ℕ) → high < length parents → low < high → get_or parents low 0 ≡ low → get_or parents high 0 ≡ high
    → IsRooting root parents → IsRooting (merged root low high) (set parents high low)
linked root parents low high inside less low_own high_own was = record {
  low = λ i within. by_root i (λ x. x ≤ i) (λ e. omega (arith, was.low i (in_old i within))) (λ ne. was.low i (in_old i within));
  kept = λ i within. written parents high low i inside (λ x. merged root low high x ≡ merged root low high i)
      (λ e. low_stays ∙ sym (high_moves i (ap root e ∙ high_root)))
      (λ ne. ap (λ x. cond (eqb x high) low x) (was.kept i (in_old i within)));
  own = λ i within. by_root i (λ x. get_or (set parents high low) x 0 ≡ x)
      (λ e. get_or-set_other parents high low low 0 (omega arith) ∙ low_own)
      (λ ne. get_or-set_other parents high (root i) low 0 ne ∙ was.own i (in_old i within));
  top = λ i within. written parents high low i inside (λ x. x ≡ i → merged root low high i ≡ i)
      (λ e is. absurd (omega arith))
      (λ ne is. let own_root : root i ≡ i = was.top i (in_old i within) is in other_stays i (λ e. ne (sym own_root ∙ e)) ∙ own_root);
}
  where
    in_old : (i : ℕ) → i < length (set parents high low) → i < length parents
    in_old i within = rw (length-set parents high low) at within

    low_root : root low ≡ low
    low_root = was.top low (omega arith) low_own

    high_root : root high ≡ high
    high_root = was.top high inside high_own

    high_moves : (i : ℕ) → root i ≡ high → merged root low high i ≡ low
    high_moves i e = ap (λ b. cond b low (root i)) (eq-eqb (root i) high e)

    other_stays : (i : ℕ) → root i ≢ high → merged root low high i ≡ root i
    other_stays i ne = ap (λ b. cond b low (root i)) (ne_eqb (root i) high ne)

    low_stays : merged root low high low ≡ low
    low_stays = other_stays low (λ e. omega (arith, e, low_root)) ∙ low_root

    by_root : (i : ℕ) (P : ℕ → Type 0) → (root i ≡ high → P low) → (root i ≢ high → P (root i)) → P (merged root low high i)
    by_root i P same other = search (rules, cases_eq)

-- the two have one root already
pub merged_same : (root : ℕ → ℕ) (low high : ℕ) → low ≡ high → (i : ℕ) → merged root low high i ≡ root i
merged_same root low high e i = search (rules, eq-eqb, ne_eqb, cases_eq)

-- one root is found after another
pub both_roots : (old mid parents : List ℕ) (one other a b : ℕ) → IsRootOf old one mid a → IsRootOf mid other parents b → (root : ℕ → ℕ) → IsRooting root old
    → IsRooting root parents × (a ≡ root one) × (b ≡ root other)
both_roots old mid parents one other a b first second root was = (second.rooting root (first.rooting root was), first.is root was, second.is root (first.rooting root was))

-- what joining two blocks' trees leaves, by the order of their roots
pub joined_low : (root : ℕ → ℕ) (parents : List ℕ) (one other low high : ℕ) → one < length parents → high < length parents → IsRooting root parents → low ≡ root one
    → high ≡ root other → other < length parents → low < high → IsRooting (merged root (min (root one) (root other)) (max (root one) (root other))) (set parents high low)
joined_low root parents one other low high one_in high_in was low_is high_is other_in less = search (rules, linked)

pub joined_high : (root : ℕ → ℕ) (parents : List ℕ) (one other low high : ℕ) → one < length parents → high < length parents → IsRooting root parents → high ≡ root one
    → low ≡ root other → other < length parents → low < high → IsRooting (merged root (min (root one) (root other)) (max (root one) (root other))) (set parents high low)
joined_high root parents one other low high one_in high_in was high_is low_is other_in less = search (rules, linked)

pub joined_same : (root : ℕ → ℕ) (parents : List ℕ) (one other : ℕ) → root one ≡ root other → IsRooting root parents
    → IsRooting (merged root (min (root one) (root other)) (max (root one) (root other))) parents
joined_same root parents one other e was = search (rules, same_rooting, merged_same)
