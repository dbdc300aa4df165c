-- The bytes of numbers, the highest first, stand in the order of the numbers.
use Rattle.std.{specs.{Int.{byte_at, bytes_high_first}, Ordering.{nat_cmp, ordering_then}, declared.cmp.Ordering.TheVariants.Equal}, proofs.Math.Arith.mod-mul}
use Rattle.std.proofs.{Common.{◌≡◌, ◌<◌, ◌≤◌, ◌+◌, ◌*◌, ◌%◌, ◌^◌, ℕ, zero, suc, List, [], ◌∷◌, ◌++◌, refl, ◌∙◌, arith, pow-suc, suc-mul}, lemmas.Bool.Decides.nat_tests}
use Rattle.{std.proofs.Math.Nat.{pow-le-pow_right, mul-le-mul_right, mod-lt}, desk_store_rows.specs.{Order.NumbersDecide, claim.Order.key_cmp}}

-- what two lists begin with says nothing of their order
pub prefix_same : (prefix a b : List ℕ) → key_cmp (prefix ++ a) (prefix ++ b) ≡ key_cmp a b
prefix_same [] a b = refl
prefix_same (x ∷ prefix) a b = let tied : nat_cmp x x ≡ Equal = grind (arith, nat_tests) in rw tied (prefix_same prefix a b)

higher : (a b u x y : ℕ) → x < u → a < b → a * u + x < b * u + y
higher a b u x y xs less =
    let whole : suc a * u ≤ b * u = mul-le-mul_right {m = suc a} {n = b} u (omega arith) in
    let one : suc a * u ≡ a * u + u = suc-mul a u in
    omega arith

digits_then : (a b u x y : ℕ) → x < u → y < u → ordering_then (nat_cmp a b) (nat_cmp x y) ≡ nat_cmp (a * u + x) (b * u + y)
digits_then a b u x y xs ys = grind (arith, nat_tests, higher a b u x y xs, higher b a u y x ys)

-- the last k + 1 bytes are one byte and the last k
one_more : (k n : ℕ) → n % 256 ^ suc k ≡ byte_at k n * 256 ^ k + n % 256 ^ k
one_more k n = search (arith, pow-suc, pow-le-pow_right, mod-mul)

bytes_decide : (k m n : ℕ) → key_cmp (bytes_high_first k m) (bytes_high_first k n) ≡ nat_cmp (m % 256 ^ k) (n % 256 ^ k)
bytes_decide zero m n = let x : m % 1 ≡ 0 = omega arith in let y : n % 1 ≡ 0 = omega arith in rw (x, y) refl
bytes_decide (suc k) m n =
    let unit = 256 ^ k in
    let some : 0 < unit = pow-le-pow_right {n = 256} (omega arith) {i = 0} {j = k} (omega arith) in
    let y : n % unit < unit = mod-lt n some in
    rw (one_more k m, one_more k n, bytes_decide k m n) (digits_then (byte_at k m) (byte_at k n) unit (m % unit) (n % unit) (mod-lt m some) y)

whole : (k m n : ℕ) (prefix : List ℕ) → m % 256 ^ k ≡ m → n % 256 ^ k ≡ n → key_cmp (prefix ++ bytes_high_first k m) (prefix ++ bytes_high_first k n) ≡ nat_cmp m n
whole k m n prefix x y = prefix_same prefix (bytes_high_first k m) (bytes_high_first k n) ∙ bytes_decide k m n ∙ (λ i. nat_cmp (x i) (y i))

pub numbers_decide : NumbersDecide
numbers_decide prefix m n = (
  λ (x : m < 2 ^ 16) (y : n < 2 ^ 16). search (arith, whole 2 m n prefix (omega arith) (omega arith)),
  λ (x : m < 2 ^ 32) (y : n < 2 ^ 32). whole 4 m n prefix (omega arith) (omega arith),
  λ (x : m < 2 ^ 64) (y : n < 2 ^ 64). whole 8 m n prefix (omega arith) (omega arith),
)
