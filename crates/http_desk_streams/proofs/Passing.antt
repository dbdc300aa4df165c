-- For which requests the gate was passed.
use Rattle.std.{specs.Prelude.{◌≡◌, ◌<◌, ◌+◌, ℕ, min}, proofs.{Common.{sym, subst, ⊎_elim, arith}, Math.Nat.eq-or-lt_of_le}}

-- for each one before the next, and then for that
pub passed_more : (passes : ℕ → Type 0) (requests : ℕ) → ((k : ℕ) → k < requests → passes (min k 4294967295)) → passes (min requests 4294967295)
    → (k : ℕ) → k < requests + 1 → passes (min k 4294967295)
passed_more passes requests before next k few =
    ⊎_elim (λ (same : k ≡ requests). subst (λ (n : ℕ). passes (min n 4294967295)) (sym same) next) (λ (less : k < requests). before k less) (eq-or-lt_of_le {n = k} {m = requests} (omega (arith, few)))
