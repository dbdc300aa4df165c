-- The head and the code of a line, by those of the line before.
use Rattle.std.{specs.{Char.{is_ascii_digit, digit_value}, List.list_all, Str.{Lines.strip_carriage_return, Parse.digits_value}}, proofs.lemmas.{Bool.and_parts, Option.cond_some}}
use Rattle.std.proofs.Common.{rules, ◌≡◌, ℕ, ◌+◌, ◌-◌, ◌*◌, ◌/◌, ◌<◌, ◌≤◌, ◌^◌, Bool, true, ◌&&◌, eqb, List, [], ◌∷◌, ◌++◌, length, take, drop, get_or, sym, ◌∙◌, ap, arith, All, Option, Some, append_assoc, length-append, take-append-drop}
use Rattle.{std.proofs.lemmas.{Int.Digits.digits_value_more, List.{take_at, length-take-le, Folds.list_all_more}, Str.digit_value_digit}, baf_text.proofs.Prefix.{IsNoFeed, prefix}}
use Rattle.{baf_text.specs.Prefix.{HasHead, HasCode, HasHundreds, HasFirst}, desk_model.specs.claim.Baf.{are_digits, code_value}, field_text.specs.claim.Digits.number_of_digits}
use Rattle.{baf_text.proofs.Rows.value_small, field_text.proofs.DigitLemmas.{digit_high, digit_low}}

-- fifteen digits, the last two by themselves
record IsTold (text : List ℕ) : Type 0 where
  digits : list_all is_ascii_digit (take 15 text) ≡ ((list_all is_ascii_digit (take 13 text) && is_ascii_digit (get_or text 13 0)) && is_ascii_digit (get_or text 14 0))
  value : digits_value 10 (take 15 text) ≡ (digits_value 10 (take 13 text) * 10 + digit_value (get_or text 13 0)) * 10 + digit_value (get_or text 14 0)

told : (text : List ℕ) → 15 ≤ length text → IsTold text
told text long = record {
  digits = list_all_more is_ascii_digit text 14 0 (omega (arith, long)) ∙ ap (λ (b : Bool). b && is_ascii_digit (get_or text 14 0)) (list_all_more is_ascii_digit text 13 0 (omega (arith, long)));
  value = digits_value_more 10 text 14 (omega (arith, long)) ∙ ap (λ (n : ℕ). n * 10 + digit_value (get_or text 14 0)) (digits_value_more 10 text 13 (omega (arith, long)));
}

worth : (c : ℕ) → is_ascii_digit c ≡ true → digit_value c + 48 ≡ c
worth c is = digit_value_digit c (digit_low c is, digit_high c is)

pub near_number : (text digits : List ℕ) (hundreds : ℕ) → 15 ≤ length text → HasHundreds digits hundreds → take 13 text ≡ digits
    → is_ascii_digit (get_or text 13 0) ≡ true → is_ascii_digit (get_or text 14 0) ≡ true
    → number_of_digits 15 (take 15 text) ≡ Some (hundreds + (get_or text 13 0 - 48) * 10 + (get_or text 14 0 - 48))
near_number text digits hundreds long has same tens ones =
    search (arith, told text long, get_or text 13 0 - 48, get_or text 14 0 - 48, worth (get_or text 13 0) tens, worth (get_or text 14 0) ones, length-take-le 15 text long)

pub hundreds_small : (digits : List ℕ) (hundreds : ℕ) → HasHundreds digits hundreds → hundreds + 99 < 10 ^ 15
hundreds_small digits hundreds has = omega (arith, has.value, value_small digits 13 has.are (omega (arith, has.long)))

pub low_worth : (tens ones : ℕ) → is_ascii_digit tens ≡ true → is_ascii_digit ones ≡ true → (tens - 48) * 10 + (ones - 48) ≤ 99
low_worth tens ones ten one = omega (arith, digit_high tens ten, digit_high ones one)

pub hundreds_of : (text : List ℕ) (id : ℕ) → HasHead text id → HasHundreds (take 13 text) (id / 100 * 100)
hundreds_of text id head =
    let long : 15 ≤ length text = omega (arith, head.long) in
    let got = cond_some (are_digits 15 (take 15 text)) (digits_value 10 (take 15 text)) id head.digits in
    let cut = told text long in
    let digits = and_parts (list_all is_ascii_digit (take 13 text) && is_ascii_digit (get_or text 13 0)) (is_ascii_digit (get_or text 14 0))
    (sym cut.digits ∙ (and_parts (eqb (length (take 15 text)) 15) (list_all is_ascii_digit (take 15 text)) got.0).1) in
    let first = and_parts (list_all is_ascii_digit (take 13 text)) (is_ascii_digit (get_or text 13 0)) digits.0 in
    record {
      long = length-take-le 13 text (omega (arith, long));
      are = first.0;
      value = omega (arith, cut.value, got.1, worth (get_or text 13 0) first.1, worth (get_or text 14 0) digits.1, digit_high (get_or text 13 0) first.1, digit_high (get_or text 14 0) digits.1);
    }

-- a code is kept with the end of its line
pub kept_code : (text code rest : List ℕ) (number : Option ℕ) → text ≡ code ++ 10 ∷ rest → All IsNoFeed code → code_value (strip_carriage_return code) ≡ Some number
    → HasCode (take (length code + 1) text) number []
kept_code text code rest number cut one says = search (rules, append_assoc code (10 ∷ []) rest, take_at (code ++ 10 ∷ []) rest (length code + 1) (length-append code (10 ∷ [])))

-- and found again
pub same_code : (text kept : List ℕ) (number : Option ℕ) (n : ℕ) → HasCode kept number [] → take n text ≡ kept → HasCode text number (drop n text)
same_code text kept number n has same = search (rules, take-append-drop n text, append_assoc has.code (10 ∷ []) (drop n text))

pub prefix_of : (text rest : List ℕ) (block : ℕ) (number : Option ℕ) → HasHead text block → HasCode (drop 16 text) number rest → HasFirst text (Some (Some (block, number))) rest
prefix_of text rest block number head code = prefix text code.code rest block number head code.cut code.one code.says
