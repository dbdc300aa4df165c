-- What keys begin with.
use Rattle.std.{specs.List.starts_with, proofs.{Common.{◌≡◌, ℕ, List, [], ◌∷◌, ◌++◌, length, drop, true, nat_eq, refl, arith}, lemmas.Bool.{and_from, and_parts, eq-eqb, eqb-true}}}

pub starts_itself : (p rest : List ℕ) → starts_with nat_eq (p ++ rest) p ≡ true
starts_itself (a ∷ p) rest = and_from (nat_eq a a) (starts_with nat_eq (p ++ rest) p) (eq-eqb a a refl) (starts_itself p rest)
starts_itself [] _ = refl

pub starts_same : (p q rest : List ℕ) → length p ≡ length q → starts_with nat_eq (q ++ rest) p ≡ true → p ≡ q
starts_same [] [] rest long on = refl
starts_same (a ∷ p) (b ∷ q) rest long on =
    let both = and_parts (nat_eq a b) (starts_with nat_eq (q ++ rest) p) on in
    let more = starts_same p q rest (omega arith) both.1 in
    λ i. (eqb-true a b both.0) i ∷ more i
starts_same _ _ rest long on = absurd (omega arith)

-- a key with a tag
pub after_tag : (key : List ℕ) (tag : ℕ) (rest : List ℕ) → starts_with nat_eq key (tag ∷ []) ≡ true → drop 1 key ≡ rest → key ≡ tag ∷ rest
after_tag key tag rest on same = search (arith, eqb-true, and_parts)
