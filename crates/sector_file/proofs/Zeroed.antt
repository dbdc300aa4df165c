-- Zeros that are written one sector after the other.
use Rattle.std.{specs.Io.KnownBytes.Appends, proofs.{Common.{◌≡◌, ℕ, ◌+◌, ◌*◌, List, Option, replicate, subst, arith}, KnownBytes.{Appends-nil, Appends-trans}}}
use Rattle.std.proofs.lemmas.List.{replicate-append-replicate}

pub zeros_none : (m : ℕ) (a : Option (List ℕ)) → Appends a a (replicate (m * 0) 0)
zeros_none m a = let e : 0 ≡ m * 0 = omega arith in subst (λ (n : ℕ). Appends a a (replicate n 0)) e (Appends-nil a)

pub zeros_more : (m k : ℕ) (a b c : Option (List ℕ)) → Appends a b (replicate (m * k) 0) → Appends b c (replicate m 0) → Appends a c (replicate (m * (k + 1)) 0)
zeros_more m k a b c before here =
    let e : m * k + m ≡ m * (k + 1) = omega arith in
    let both : Appends a c (replicate (m * k + m) 0) = subst (λ (l : List ℕ). Appends a c l) (replicate-append-replicate (m * k) m 0) (Appends-trans a b c _ _ before here) in
    subst (λ (n : ℕ). Appends a c (replicate n 0)) e both
