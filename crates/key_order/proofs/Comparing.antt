-- Keys compared by numbers that eight bytes spell.
use Rattle.std.specs.{Cmp.{nat_cmp_is, ranks, Lexicographic.slice_cmp}, Ordering.{nat_cmp, ordering_then, MatchOrdering}, Slice.Scan.big_endian, declared.cmp.Ordering.Ordering}
use Rattle.std.specs.declared.cmp.Ordering.TheVariants.{Less, Equal, Greater}
use Rattle.std.proofs.Common.{◌≡◌, ◌+◌, ◌*◌, ◌<◌, ◌≤◌, ◌++◌, ℕ, zero, suc, min, List, [], ◌∷◌, length, take, drop, get_or, refl, sym, ap, subst, ◌∙◌, arith, length-drop, get_or-drop, drop-cons, take-add, take-take, w8, Fits}

-- keys in the order of their bytes, a key before its longer continuations
abbrev pub key_cmp : List ℕ → List ℕ → Ordering
key_cmp = slice_cmp nat_cmp

abbrev Bytes : List ℕ → Type 0
Bytes xs = (k : ℕ) → Fits w8 (get_or xs k 0)

-- keys whose first bytes are alike compare as what follows does
first_alike : (x y : ℕ) (xs ys us vs : List ℕ) → x ∷ us ≡ y ∷ vs → key_cmp (x ∷ xs) (y ∷ ys) ≡ key_cmp xs ys
first_alike x y xs ys us vs same = ap (λ r. ordering_then r (key_cmp xs ys)) (sym (nat_cmp_is x y Equal (ap (λ l. get_or l 0 0) same)))

-- past what is alike
pub past : (i : ℕ) (xs ys : List ℕ) → i ≤ length xs → i ≤ length ys → take i xs ≡ take i ys → key_cmp xs ys ≡ key_cmp (drop i xs) (drop i ys)
past zero xs ys a b same = refl
past (suc i) [] ys a b same = absurd (omega arith)
past (suc i) (x ∷ xs) [] a b same = absurd (omega arith)
past (suc i) (x ∷ xs) (y ∷ ys) a b same = first_alike x y xs ys (take i xs) (take i ys) same ∙ past i xs ys (omega arith) (omega arith) (ap (drop 1) same)

pub fewer : (i j : ℕ) (xs ys : List ℕ) → i ≤ j → take j xs ≡ take j ys → take i xs ≡ take i ys
fewer i j xs ys le same = sym (take-take i j xs le) ∙ ap (take i) same ∙ take-take i j ys le

-- keys that are alike as far as both go compare as their lengths do
by_ends : (xs ys : List ℕ) (n : ℕ) → n ≡ min (length xs) (length ys) → take n xs ≡ take n ys → MatchOrdering (key_cmp xs ys) (length xs < length ys) (length xs ≡ length ys) (length ys < length xs)
by_ends [] [] n is same = refl
by_ends [] (y ∷ ys) n is same = omega arith
by_ends (x ∷ xs) [] n is same = omega arith
by_ends (x ∷ xs) (y ∷ ys) zero is same = absurd (omega arith)
by_ends (x ∷ xs) (y ∷ ys) (suc n) is same =
    subst (λ r. MatchOrdering r (suc (length xs) < suc (length ys)) (suc (length xs) ≡ suc (length ys)) (suc (length ys) < suc (length xs))) (sym (first_alike x y xs ys (take n xs) (take n ys) same))
    (more (key_cmp xs ys) (length xs) (length ys) (by_ends xs ys n (omega arith) (ap (drop 1) same)))
  where
    more : (r : Ordering) (a b : ℕ) → MatchOrdering r (a < b) (a ≡ b) (b < a) → MatchOrdering r (suc a < suc b) (suc a ≡ suc b) (suc b < suc a)
    more Less a b h = let less : a < b = h in omega arith
    more Equal a b h = let tied : a ≡ b = h in omega arith
    more Greater a b h = let more : b < a = h in omega arith

pub by_lengths : (xs ys : List ℕ) (n : ℕ) → n ≡ min (length xs) (length ys) → take n xs ≡ take n ys → nat_cmp (length xs) (length ys) ≡ key_cmp xs ys
by_lengths xs ys n is same = sym (nat_cmp_is (length xs) (length ys) (key_cmp xs ys) (by_ends xs ys n is same))

-- ---- bytes as numbers
-- x and y are what the first n bytes spell, so that they compare as those do
pub record Settles (xs ys : List ℕ) (n x y : ℕ) : Type 0 where
  pub apart : (x ≡ y → ⊥) → key_cmp xs ys ≡ nat_cmp x y
  pub alike : x ≡ y → take n xs ≡ take n ys

rises : (n a b : ℕ) (us vs : List ℕ) → n ≤ length us → n ≤ length vs → Bytes us → a < b → big_endian a (take n us) < big_endian b (take n vs)
rises zero a b us vs p q fits less = less
rises (suc n) a b [] vs p q fits less = absurd (omega arith)
rises (suc n) a b (u ∷ us) [] p q fits less = absurd (omega arith)
rises (suc n) a b (u ∷ us) (v ∷ vs) p q fits less =
    let small : u < 256 = (fits 0).fits in
    rises n (a * 256 + u) (b * 256 + v) us vs (omega arith) (omega arith) (λ k. fits (suc k)) (omega arith)

spells : (n a : ℕ) (us vs : List ℕ) → n ≤ length us → n ≤ length vs → Bytes us → Bytes vs → Settles us vs n (big_endian a (take n us)) (big_endian a (take n vs))
spells zero a us vs p q g h = record { apart = λ f. absurd (f refl); alike = λ _. refl }
spells (suc n) a [] vs p q g h = absurd (omega arith)
spells (suc n) a (u ∷ us) [] p q g h = absurd (omega arith)
spells (suc n) a (u ∷ us) (v ∷ vs) p q g h = by (spells n (a * 256 + u) us vs (omega arith) (omega arith) (λ k. g (suc k)) (λ k. h (suc k))) (nat_cmp u v) refl (ranks u v)
  where
    by : Settles us vs n (big_endian (a * 256 + u) (take n us)) (big_endian (a * 256 + u) (take n vs))
        → (r : Ordering) → nat_cmp u v ≡ r → MatchOrdering r (u < v) (u ≡ v) (v < u) → Settles (u ∷ us) (v ∷ vs) (suc n) (big_endian (a * 256 + u) (take n us)) (big_endian (a * 256 + v) (take n vs))
    by rest Less e lies =
        let under : u < v = lies in
        let t = rises n (a * 256 + u) (a * 256 + v) us vs (omega arith) (omega arith) (λ k. g (suc k)) (omega arith) in
        record { apart = λ _. ap (λ r. ordering_then r (key_cmp us vs)) e ∙ nat_cmp_is _ _ Less t; alike = λ s. absurd (omega arith) }
    by rest Greater e lies =
        let over : v < u = lies in
        let t = rises n (a * 256 + v) (a * 256 + u) vs us (omega arith) (omega arith) (λ k. h (suc k)) (omega arith) in
        record { apart = λ _. ap (λ r. ordering_then r (key_cmp us vs)) e ∙ nat_cmp_is _ _ Greater t; alike = λ s. absurd (omega arith) }
    by rest Equal e lies =
        let tied : u ≡ v = lies in
        let t = subst (λ z. Settles us vs n (big_endian (a * 256 + u) (take n us)) (big_endian (a * 256 + z) (take n vs))) tied rest in
        record { apart = λ f. ap (λ r. ordering_then r (key_cmp us vs)) e ∙ t.apart f; alike = λ s i. tied i ∷ t.alike s i }

-- the eight bytes from i on, where those before are alike
pub settles : (xs ys : List ℕ) (i x y : ℕ) → Bytes xs → Bytes ys → i + 8 ≤ length xs → i + 8 ≤ length ys → take i xs ≡ take i ys → x ≡ big_endian 0 (take 8 (drop i xs)) → y ≡ big_endian 0 (take 8 (drop i ys)) → Settles xs ys (i + 8) x y
settles xs ys i x y g h p q same a b =
    let t = spells 8 0 (drop i xs) (drop i ys) (omega (arith, length-drop i xs)) (omega (arith, length-drop i ys))
    (λ k. subst (Fits w8) (sym (get_or-drop i xs k 0)) (g (i + k))) (λ k. subst (Fits w8) (sym (get_or-drop i ys k 0)) (h (i + k))) in
    subst (Settles xs ys (i + 8) x) (sym b) (subst (λ z. Settles xs ys (i + 8) z (big_endian 0 (take 8 (drop i ys)))) (sym a) (record {
      apart = λ f. past i xs ys (omega arith) (omega arith) same ∙ t.apart f;
      alike = λ s. take-add i 8 xs ∙ (λ j. same j ++ t.alike s j) ∙ sym (take-add i 8 ys);
    }))

-- n bytes from i + k on, one by one
abbrev reads : List ℕ → ℕ → ℕ → ℕ → List ℕ
reads xs i k zero = []
reads xs i k (suc n) = get_or xs (i + k) 0 ∷ reads xs i (suc k) n

read_out : (n : ℕ) (xs : List ℕ) (i k : ℕ) → i + k + n ≤ length xs → take n (drop (i + k) xs) ≡ reads xs i k n
read_out zero xs i k le = refl
read_out (suc n) xs i k le =
    let next : suc (i + k) ≡ i + suc k = omega arith in
    ap (take (suc n)) (drop-cons xs (i + k) 0 (omega arith))
    ∙ ap (λ l. get_or xs (i + k) 0 ∷ l) (ap (λ m. take n (drop m xs)) next ∙ read_out n xs i (suc k) (omega arith))

pub eight_are : (xs : List ℕ) (i : ℕ) → i + 8 ≤ length xs
    → get_or xs i 0 * 72057594037927936 + get_or xs (i + 1) 0 * 281474976710656 + get_or xs (i + 2) 0 * 1099511627776 + get_or xs (i + 3) 0 * 4294967296
    + get_or xs (i + 4) 0 * 16777216 + get_or xs (i + 5) 0 * 65536 + get_or xs (i + 6) 0 * 256 + get_or xs (i + 7) 0 ≡ big_endian 0 (take 8 (drop i xs))
eight_are xs i le =
    let here : get_or xs (i + 0) 0 ≡ get_or xs i 0 = ap (λ k. get_or xs k 0) (omega arith) in
    let start : i ≡ i + 0 = omega arith in
    omega (arith, here) ∙ sym (ap (big_endian 0) (ap (λ m. take 8 (drop m xs)) start ∙ read_out 8 xs i 0 (omega arith)))
