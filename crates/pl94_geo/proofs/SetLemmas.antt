-- A set of numbers in words of 64.
use Rattle.{std.{specs.Int.{bit_at, w64}, proofs.lemmas.Bool.{eq-eqb, eqb-false, ne_eqb, Decides.nat_tests}}, pl94_geo.specs.Sets.{word_at, other_word, has, TurnsTo, Inserts}}
use Rattle.std.proofs.Common.{◌≡◌, ◌≢◌, ℕ, ◌/◌, ◌%◌, ◌^◌, ◌*◌, Bool, true, false, not, cond, ◌||◌, eqb, [], refl, sym, ap, ◌∙◌, arith, bit_and, bit_or, rules}
use Rattle.{std.proofs.lemmas.Nat.Bits.{bit_at-zero, shr_and_one, bit_at_set_same, bit_at_set_other}, pl94_geo.specs.declared.number_set.NumberSet.NumberSet}

either_zero : (b : Bool) (x y : ℕ) → x ≡ 0 → y ≡ 0 → cond b x y ≡ 0
either_zero b x y at other = grind arith

-- a set without a bit
pub none_yet : (s : NumberSet) → s.word ≡ 0 → s.others.entries ≡ [] → (n : ℕ) → has s n ≡ false
unfolding has
none_yet s word empty n = search (rules, either_zero, bit_at-zero)

-- a word that is taken to hand changes nothing
has_same : (old new : NumberSet) (place : ℕ) → TurnsTo old new place → (n : ℕ) → has new n ≡ has old n
unfolding has
has_same old new place turned n = ap (λ (w : ℕ). eqb (bit_at w (n % 64)) 1) (turned.words (n / 64))

-- the word at hand
word_here : (s : NumberSet) (place : ℕ) → s.place ≡ place → word_at s place ≡ s.word
word_here s place at = ap (λ (b : Bool). cond b s.word (other_word s place)) (ap (λ (p : ℕ). eqb p place) at ∙ eq-eqb place place refl)

has_here : (s : NumberSet) (n : ℕ) → s.place ≡ n / 64 → has s n ≡ eqb (bit_and (s.word / 2 ^ (n % 64)) 1) 1
unfolding has
has_here s n at = ap (λ (w : ℕ). eqb (bit_at w (n % 64)) 1) (word_here s (n / 64) at) ∙ ap (λ (b : ℕ). eqb b 1) (sym (shr_and_one s.word (n % 64)))

-- a number that is there
pub stays : (old new : NumberSet) (n : ℕ) → TurnsTo old new (n / 64) → bit_and (new.word / 2 ^ (n % 64)) 1 ≡ 1 → Inserts old new n false
stays old new n turned set = record { told = ap not (sym there); grown = λ q. by_case q (eqb n q) refl }
  where
    there : has old n ≡ true
    there = sym (has_same old new (n / 64) turned n) ∙ has_here new n turned.at ∙ ap (λ (b : ℕ). eqb b 1) set

    by_case : (q : ℕ) (b : Bool) → eqb n q ≡ b → has new q ≡ (b || has old q)
    by_case q true is = let same : q ≡ n = grind (arith, nat_tests) in ap (has new) same ∙ has_same old new (n / 64) turned n ∙ there
    by_case q false is = has_same old new (n / 64) turned q

-- the set with a bit more
abbrev pub with_bit : NumberSet → ℕ → NumberSet
with_bit s k = record { place = s.place; word = bit_or s.word (1 * 2 ^ k % 2 ^ 64); others = s.others }

-- a number that is new
pub added : (old s : NumberSet) (n : ℕ) → TurnsTo old s (n / 64) → bit_and (s.word / 2 ^ (n % 64)) 1 ≢ 1 → Inserts old (with_bit s (n % 64)) n true
unfolding has
added old s n turned clear = record {
  told = ap not (sym absent);
  grown = λ q. at_place q (eqb s.place (q / 64)) refl ∙ ap (λ (b : Bool). eqb n q || b) (has_same old s (n / 64) turned q);
}
  where
    absent : has old n ≡ false
    absent = sym (has_same old s (n / 64) turned n) ∙ has_here s n turned.at ∙ ne_eqb (bit_and (s.word / 2 ^ (n % 64)) 1) 1 clear

    in_word : (q : ℕ) (b : Bool) → eqb n q ≡ b → n / 64 ≡ q / 64 → eqb (bit_at (bit_or s.word (1 * 2 ^ (n % 64) % 2 ^ 64)) (q % 64)) 1 ≡ (b || eqb (bit_at s.word (q % 64)) 1)
    in_word q true is place =
        let same : q ≡ n = grind (arith, nat_tests) in
        ap (λ (k : ℕ). eqb (bit_at (bit_or s.word (1 * 2 ^ (n % 64) % 2 ^ 64)) (k % 64)) 1) same ∙ ap (λ (b : ℕ). eqb b 1) (bit_at_set_same w64 s.word (n % 64) (omega arith))
    in_word q false is place = ap (λ (b : ℕ). eqb b 1) (bit_at_set_other w64 s.word (n % 64) (omega arith) (q % 64) (λ same. eqb-false n q is (omega arith)))

    at_place : (q : ℕ) (b : Bool) → eqb s.place (q / 64) ≡ b
        → eqb (bit_at (cond b (bit_or s.word (1 * 2 ^ (n % 64) % 2 ^ 64)) (other_word s (q / 64))) (q % 64)) 1 ≡ (eqb n q || eqb (bit_at (cond b s.word (other_word s (q / 64))) (q % 64)) 1)
    at_place q true is = let place : n / 64 ≡ q / 64 = grind (arith, nat_tests, turned.at) in in_word q (eqb n q) refl place
    at_place q false is =
        let differ : eqb n q ≡ false = ne_eqb n q (λ same. eqb-false s.place (q / 64) is (turned.at ∙ ap (λ (m : ℕ). m / 64) same)) in
        ap (λ (b : Bool). b || eqb (bit_at (other_word s (q / 64)) (q % 64)) 1) (sym differ)
