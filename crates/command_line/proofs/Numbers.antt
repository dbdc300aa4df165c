-- A number digit by digit, which stops at a limit.
use Rattle.std.{specs.{Char.is_ascii_digit, List.list_all, Str.Parse.digits_value}, proofs.lemmas.{Bool.Decides.nat_tests, Int.Digits.digits_value_more, List.Folds.list_all_more}}
use Rattle.std.proofs.{Common.{◌≡◌, ℕ, ◌+◌, ◌-◌, ◌*◌, ◌<◌, ◌≤◌, Bool, true, ◌&&◌, List, length, take, get_or, min, refl, sym, ap, ◌∙◌, arith}, lemmas.Str.digit_value_digit}

pub digit_in : (c : ℕ) → is_ascii_digit c ≡ true → (48 ≤ c) × (c ≤ 57)
digit_in c is = (grind (arith, nat_tests), grind (arith, nat_tests))

value_more : (bytes : List ℕ) (n i : ℕ) → n ≡ digits_value 10 (take i bytes) → i < length bytes → is_ascii_digit (get_or bytes i 0) ≡ true
    → n * 10 + (get_or bytes i 0 - 48) ≡ digits_value 10 (take (i + 1) bytes)
value_more bytes n i value inside is =
    let range = digit_in (get_or bytes i 0) is in
    let more = digits_value_more 10 bytes i inside in
    let digit = digit_value_digit (get_or bytes i 0) range in
    sym (rw (more, ← value) (omega arith))

pub stopped_more : (bytes : List ℕ) (n i : ℕ) → n ≡ min (digits_value 10 (take i bytes)) 4294967296 → i < length bytes → is_ascii_digit (get_or bytes i 0) ≡ true
    → min (n * 10 + (get_or bytes i 0 - 48)) 4294967296 ≡ min (digits_value 10 (take (i + 1) bytes)) 4294967296
stopped_more bytes n i value inside is = let exact = value_more bytes (digits_value 10 (take i bytes)) i refl inside is in omega arith

pub digits_more : (bytes : List ℕ) (i : ℕ) → list_all is_ascii_digit (take i bytes) ≡ true → i < length bytes → is_ascii_digit (get_or bytes i 0) ≡ true
    → list_all is_ascii_digit (take (i + 1) bytes) ≡ true
digits_more bytes i were inside is =
    list_all_more is_ascii_digit bytes i 0 inside ∙ ap (λ (b : Bool). b && is_ascii_digit (get_or bytes i 0)) were ∙ is
