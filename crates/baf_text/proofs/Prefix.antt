-- A row at the start of a text, found without a look for the line's end first.
use Rattle.std.{specs.{Char.is_ascii_digit, List.list_all, Str.{Lines.{lines, strip_carriage_return}, Parse.digits_value}}, proofs.{Math.Dec.eqb-suc-zero, lemmas.Bool.and_parts}}
use Rattle.std.proofs.Common.{◌≡◌, ℕ, ◌-◌, Bool, true, false, cond, eqb, List, [], ◌∷◌, ◌++◌, length, take, drop, get_or, suc, refl, sym, ◌∙◌, ap, arith, All, Option, Some, append_assoc, length-append, length-drop, take-append-drop}
use Rattle.{std.proofs.lemmas.{Bool.Decides.nat_tests, List.{drop_more, Elements.{All-cons, All-append}}, Option.cond_some}, baf_text.specs.Prefix.{HasHead, HasFirst, line_parts}}
use Rattle.{desk_model.specs.claim.Baf.{are_digits, code_value}, baf_text.proofs.Rows.{IsRow, digits_all, two_fields, fields_from_row}, field_text.proofs.TextLemmas.lines-cut}

abbrev pub IsNoFeed : ℕ → Type 0
IsNoFeed b = eqb b 10 ≡ false

not_a_feed : (bytes : List ℕ) → list_all is_ascii_digit bytes ≡ true → All IsNoFeed bytes
not_a_feed = digits_all IsNoFeed (λ b is. grind (arith, nat_tests))

-- a return at the end of a text is one at the end of its last part
strip_cons : (x y : ℕ) (ys : List ℕ) → strip_carriage_return (x ∷ y ∷ ys) ≡ x ∷ strip_carriage_return (y ∷ ys)
strip_cons x y ys =
    let one : length (x ∷ y ∷ ys) - 1 ≡ suc (length ys) = omega arith in
    let two : length (y ∷ ys) - 1 ≡ length ys = omega arith in
    rw (one, two) (by_test (eqb (get_or (y ∷ ys) (length ys) 0) 13))
  where
    by_test : (b : Bool) → cond b (x ∷ take (length ys) (y ∷ ys)) (x ∷ y ∷ ys) ≡ x ∷ cond b (take (length ys) (y ∷ ys)) (y ∷ ys)
    by_test true = refl
    by_test false = refl

strip_bar : (code : List ℕ) → strip_carriage_return (124 ∷ code) ≡ 124 ∷ strip_carriage_return code
strip_bar [] = refl
strip_bar (y ∷ ys) = strip_cons 124 y ys

strip_after : (xs : List ℕ) (y : ℕ) (ys : List ℕ) → strip_carriage_return (xs ++ y ∷ ys) ≡ xs ++ strip_carriage_return (y ∷ ys)
strip_after [] y ys = refl
strip_after (x ∷ []) y ys = strip_cons x y ys
strip_after (x ∷ z ∷ xs) y ys = strip_cons x z (xs ++ y ∷ ys) ∙ ap (λ (t : List ℕ). x ∷ t) (strip_after (z ∷ xs) y ys)

pub row_says : (line : List ℕ) (e : ℕ × Option ℕ) → IsRow line e → Some (Some e) ≡ line_parts line
row_says [] e row = absurd (omega (arith, row.long))
row_says (b ∷ line) e row = rw (eqb-suc-zero (length line)) (ap (λ (p : Option (ℕ × Option ℕ)). Some p) (sym (fields_from_row (b ∷ line) e row)))

pub head_row : (line : List ℕ) (block : ℕ) (v : Option ℕ) → HasHead line block → code_value (drop 16 line) ≡ Some v → IsRow line (block, v)
head_row line block v head code = record { long = head.long; bar = head.bar; id = head.digits; code = code }

pub row_head : (line : List ℕ) (e : ℕ × Option ℕ) → IsRow line e → HasHead line e.0
row_head line e row = record { long = row.long; bar = row.bar; digits = row.id }

pub prefix : (text code rest : List ℕ) (block : ℕ) (v : Option ℕ) → HasHead text block → drop 16 text ≡ code ++ 10 ∷ rest → All IsNoFeed code
    → code_value (strip_carriage_return code) ≡ Some v → HasFirst text (Some (Some (block, v))) rest
prefix text code rest block v head cut one value = record {
  line = take 15 text ++ 124 ∷ strip_carriage_return code;
  cut = ap lines whole ∙ lines-cut (take 15 text ++ 124 ∷ code) rest no_feed ∙ ap (λ (l : List ℕ). l ∷ lines rest) stripped;
  says = row_says (take 15 text ++ 124 ∷ strip_carriage_return code) (block, v)
      (two_fields (take 15 text) (strip_carriage_return code) (block, v) true (Some v) digits.0 value (ap (λ (n : ℕ). Some (n, v)) digits.1));
  shorter = omega (arith, ap length cut, length-drop 16 text, length-append code (10 ∷ rest));
}
  where
    digits : (are_digits 15 (take 15 text) ≡ true) × (digits_value 10 (take 15 text) ≡ block)
    digits = cond_some (are_digits 15 (take 15 text)) (digits_value 10 (take 15 text)) block head.digits

    after : drop 15 text ≡ (124 ∷ code) ++ 10 ∷ rest
    after = drop_more text 15 0 head.long ∙ ap (λ (c : ℕ). c ∷ drop 16 text) head.bar ∙ ap (λ (t : List ℕ). 124 ∷ t) cut

    whole : text ≡ (take 15 text ++ 124 ∷ code) ++ 10 ∷ rest
    whole = sym (take-append-drop 15 text) ∙ ap (λ (t : List ℕ). take 15 text ++ t) after ∙ sym (append_assoc (take 15 text) (124 ∷ code) (10 ∷ rest))

    no_feed : All IsNoFeed (take 15 text ++ 124 ∷ code)
    no_feed = All-append IsNoFeed (take 15 text) (124 ∷ code)
        (not_a_feed (take 15 text) (and_parts (eqb (length (take 15 text)) 15) (list_all is_ascii_digit (take 15 text)) digits.0).1)
        (All-cons IsNoFeed 124 code refl one)

    stripped : strip_carriage_return (take 15 text ++ 124 ∷ code) ≡ take 15 text ++ 124 ∷ strip_carriage_return code
    stripped = strip_after (take 15 text) 124 code ∙ ap (λ (t : List ℕ). take 15 text ++ t) (strip_bar code)
