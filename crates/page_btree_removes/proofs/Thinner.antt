-- A tree whose root has no more entries is no nearer to a seventh level.
use Rattle.std.{specs.Prelude.min, proofs.{Common.{◌≡◌, ◌<◌, ◌≤◌, ◌⊎◌, ◌∙◌, inl, inr, ℕ, zero, suc, sym, ap, subst, arith}, lemmas.Bool.Decides.leb_tells}}
use Rattle.{std.proofs.Math.Nat.{min-eq_left, min-eq_right, min-le_left, min-le_right}, page_btree_gets.specs.claim.Errors.{level_in, reach_at, reach_in}}
use Rattle.{page_btree_gets.specs.node.claim.Node.count_in, page_btree_removes.specs.Outcomes.IsNoNearer, sector_device.specs.claim.Disk.Image}

min_less : (e f : ℕ) → f ≤ e → min 51 f ≤ min 51 e
min_less e f le = elim (leb_tells 51 e) [
  | inl told ↦ let many : min 51 e ≡ 51 = min-eq_left told.1 in let low = min-le_left 51 f in omega arith
  | inr told ↦ let few = told.1 in let is : min 51 e ≡ e = min-eq_right (omega (arith, few)) in let low = min-le_right 51 f in omega arith
]

at_less : (d e f : ℕ) → (0 < d → f ≤ e) → reach_at d f ≤ reach_at d e
at_less zero e f le = omega arith
at_less (suc d) e f le = let less = min_less e f (le (omega arith)) in omega arith

some_at : (d e : ℕ) → 50 ≤ reach_at d e
some_at zero e = omega arith
some_at (suc d) e = omega arith

some_in : (P : Image) (p : ℕ) → 50 ≤ reach_in P p
some_in P zero = omega arith
some_in P (suc p) = some_at (level_in P (suc p)) (count_in (P (suc p)))

same_root : (P Q : Image) (p : ℕ) → level_in Q p ≡ level_in P p → (0 < level_in P p → count_in (Q p) ≤ count_in (P p)) → reach_in Q p ≤ reach_in P p
same_root P Q zero level few = omega arith
same_root P Q (suc p) level few =
    let is : reach_in Q (suc p) ≡ reach_at (level_in P (suc p)) (count_in (Q (suc p))) = ap (λ d. reach_at d (count_in (Q (suc p)))) level in
    let less = at_less (level_in P (suc p)) (count_in (P (suc p))) (count_in (Q (suc p))) few in
    omega (arith, is, less)

-- there is no root any more; or it is the same one, on the same level and, above the leaves, with no more entries
abbrev IsThinner : Image → ℕ → Image → ℕ → Type 0
IsThinner P p Q q = (q ≡ 0) ⊎ ((q ≡ p) × (level_in Q q ≡ level_in P p) × (0 < level_in P p → count_in (Q q) ≤ count_in (P p)))

pub thinner_reach : (P : Image) (p : ℕ) (Q : Image) (q : ℕ) → IsThinner P p Q q → IsNoNearer P p Q q
thinner_reach P p Q q (inl none) =
    let is : reach_in Q q ≡ 50 = ap (λ x. reach_in Q x) none in
    let low = some_in P p in
    omega (arith, is, low)
thinner_reach P p Q q (inr thin) =
    let is : reach_in Q q ≡ reach_in Q p = ap (λ x. reach_in Q x) thin.0 in
    let less = same_root P Q p (ap (λ x. level_in Q x) (sym thin.0) ∙ thin.1) (λ some. subst (λ (x : ℕ). count_in (Q x) ≤ count_in (P p)) thin.0 (thin.2 some)) in
    omega (arith, is, less)
