-- Numbers digit by digit.
use Rattle.std.{specs.{Char.{is_ascii_digit, digit_value}, Str.Parse.{digits_value, digits_value_after}}, proofs.{Math.Nat.{pow-le-pow_right, pow-suc}, lemmas.List.drop-drop}}
use Rattle.std.proofs.Common.{◌≡◌, ℕ, ◌+◌, ◌-◌, ◌*◌, ◌^◌, ◌<◌, ◌≤◌, true, List, [], ◌∷◌, ◌++◌, length, take, drop, get_or, Fits, w64, sym, ap, ◌∙◌, arith, lit<, add-one, length-drop, take-append-drop, rules}
use Rattle.std.proofs.lemmas.{Bool.Decides.nat_tests, Int.Digits.digits_value_more, Str.digit_value_digit}

pub digit_low : (c : ℕ) → is_ascii_digit c ≡ true → 48 ≤ c
digit_low c is = grind (arith, nat_tests)

pub digit_high : (c : ℕ) → is_ascii_digit c ≡ true → c ≤ 57
digit_high c is = grind (arith, nat_tests)

-- one more digit fits 64 bits, while there are 19 at most
pub fits_more : (n i c : ℕ) → n < 10 ^ i → i < 19 → is_ascii_digit c ≡ true → Fits w64 (n * 10 + (c - 48))
fits_more n i c small few is = search (rules, pow-le-pow_right, lit<, digit_low, digit_high)

pub small_more : (n i c : ℕ) → n < 10 ^ i → is_ascii_digit c ≡ true → n * 10 + (c - 48) < 10 ^ (i + 1)
small_more n i c small is = let high = digit_high c is in rw (add-one i, pow-suc 10 i) (omega arith)

pub value_more : (bytes : List ℕ) (n i : ℕ) → n ≡ digits_value 10 (take i bytes) → i < length bytes → is_ascii_digit (get_or bytes i 0) ≡ true
    → n * 10 + (get_or bytes i 0 - 48) ≡ digits_value 10 (take (i + 1) bytes)
value_more bytes n i value inside is = search (rules, digit_low, digit_high, digits_value_more, digit_value_digit)

pub below_pow : (n i j : ℕ) → n < 10 ^ i → i ≤ j → n < 10 ^ j
below_pow n i j small le = search (rules, pow-le-pow_right, lit<)

-- a number before another
value_after-is : (n : ℕ) (ys : List ℕ) → digits_value_after 10 n ys ≡ n * 10 ^ length ys + digits_value 10 ys
value_after-is n [] = omega arith
value_after-is n (y ∷ ys) = value_after-is (n * 10 + digit_value y) ys ∙ rw (pow-suc 10 (length ys), value_after-is (0 * 10 + digit_value y) ys) (omega arith)

value-append : (n : ℕ) (xs ys : List ℕ) → digits_value_after 10 n (xs ++ ys) ≡ digits_value_after 10 n xs * 10 ^ length ys + digits_value 10 ys
value-append n [] ys = value_after-is n ys
value-append n (x ∷ xs) ys = value-append (n * 10 + digit_value x) xs ys

-- a text of digits, cut
value_cut : (bytes : List ℕ) (i : ℕ) → digits_value 10 bytes ≡ digits_value 10 (take i bytes) * 10 ^ length (drop i bytes) + digits_value 10 (drop i bytes)
value_cut bytes i = ap (digits_value 10) (sym (take-append-drop i bytes)) ∙ value-append 0 (take i bytes) (drop i bytes)

-- three numbers of five digits each
pub value_by_fives : (bytes : List ℕ) (high middle low : ℕ) → length bytes ≡ 15 → high ≡ digits_value 10 (take 5 bytes) → middle ≡ digits_value 10 (take 5 (drop 5 bytes))
    → low ≡ digits_value 10 (drop 10 bytes) → high * 10000000000 + middle * 100000 + low ≡ digits_value 10 bytes
value_by_fives bytes high middle low long high_is middle_is low_is =
    let ten : length (drop 5 bytes) ≡ 10 = omega (arith, length-drop 5 bytes) in
    let five : length (drop 5 (drop 5 bytes)) ≡ 5 = omega (arith, length-drop 5 (drop 5 bytes), length-drop 5 bytes) in
    let prefix = rw (ten, ← high_is) at (value_cut bytes 5) in
    let back = rw (five, ← middle_is, drop-drop 5 5 bytes, ← low_is) at (value_cut (drop 5 bytes) 5) in
    omega (arith, prefix, back)
