-- Words that are put one after the other.
use Rattle.{std.proofs.Common.{◌+◌, ℕ, List, ◌++◌, ap, ◌∙◌, append_assoc, arith}, http_wire.specs.Adding.Adds}

pub adds : {a b : ℕ} {p q s t u : List ℕ} → Adds a p s t → Adds b q t u → Adds (a + b) (p ++ q) s u
adds {a} {b} {p} {q} {s} {t} {u} x y = record { is = y.is ∙ ap (λ (l : List ℕ). l ++ q) x.is ∙ append_assoc s p q; few = omega arith }
