-- The parts of a line.
use Rattle.std.specs.{Char.is_ascii_digit, Cmp.Lexicographic.pointwise, List.{list_all, join_with_byte}, Prelude.{codes, nat_eq}, Str.Parse.digits_value}
use Rattle.std.proofs.Common.{◌≡◌, ℕ, ◌<◌, ◌≤◌, ◌^◌, Bool, true, false, cond, ◌&&◌, ◌||◌, eqb, nat_le, List, [], ◌∷◌, ◌++◌, length, take, drop, get_or, refl, sym, ◌∙◌, ap, arith, rules, All, Option, Some, None, length-append}
use Rattle.std.proofs.lemmas.{Bool.{eqb-true, leb-true, and_parts, or_cases, Decides.nat_tests}, List.Elements.{All-cons, All-nil, All-same, All-weaker}, Option.cond_some}
use Rattle.std.proofs.lemmas.{List.{take_at, drop_at, drop-drop, drop_more, take-append-drop, get_or_at, nil_from_length, Sums.AllPass-from_list_all}, Slice.Eq.bytes_eq-Decides}
use Rattle.{std.proofs.lemmas.List.Splits.{slice_split_at, slice_split_none, join_with_byte-slice_split}, desk_model.specs.claim.Baf.{are_digits, code_value, with_id, fields_of}}
use Rattle.{std.proofs.lemmas.Str.Parse.{IsNumeralModel, IsDigitsTest, numerals_by_value, digits_value_short}, field_text.specs.claim.Digits.{number_of, number_of_digits}}
use Rattle.field_text.specs.claim.Fields.{fields}

tells_digits : IsDigitsTest (λ ds. list_all is_ascii_digit ds ≡ true)
tells_digits = search rules

pub own : IsNumeralModel (λ ds. list_all is_ascii_digit ds ≡ true) (digits_value 10)
own = numerals_by_value _ tells_digits

-- so many digits write a number below that power of ten
pub value_small : (bytes : List ℕ) (most : ℕ) → list_all is_ascii_digit bytes ≡ true → length bytes ≤ most → digits_value 10 bytes < 10 ^ most
value_small bytes most are few = digits_value_short own bytes most are few

pub number_small : (most : ℕ) (bytes : List ℕ) (v : ℕ) → number_of most bytes ≡ Some v → v < 10 ^ most
number_small most bytes v is = search (rules, cond_some, nat_le, and_parts, leb-true, value_small)

pub id_small : (count : ℕ) (bytes : List ℕ) (v : ℕ) → number_of_digits count bytes ≡ Some v → v < 10 ^ count
id_small count bytes v is = search (rules, cond_some, and_parts, value_small, eqb-true)

-- a line has the block's number, a bar and a code
pub record IsRow (line : List ℕ) (e : ℕ × Option ℕ) : Type 0 where
  pub long : 15 < length line
  pub bar : get_or line 15 0 ≡ 124
  pub id : number_of_digits 15 (take 15 line) ≡ Some e.0
  pub code : code_value (drop 16 line) ≡ Some e.1

pub two_fields : (id code : List ℕ) (e : ℕ × Option ℕ) (b : Bool) (v : Option (Option ℕ)) → are_digits 15 id ≡ b → code_value code ≡ v
    → cond b (with_id (digits_value 10 id) v) None ≡ Some e → IsRow (id ++ 124 ∷ code) e
two_fields id code e true (Some x) are value gives =
    let long : length id ≡ 15 = eqb-true (length id) 15 (and_parts _ _ are).0 in
    let pair : ◌≡◌ {A = ℕ × Option ℕ} (digits_value 10 id, x) e = cc in
    record {
      long = omega (arith, length-append id (124 ∷ code));
      bar = get_or_at id 124 code 0 15 long;
      id = rw (take_at id (124 ∷ code) 15 long, are) (ap (λ (p : ℕ × Option ℕ). Some p.0) pair);
      code = ap code_value (sym (drop-drop 1 15 (id ++ 124 ∷ code)) ∙ ap (drop 1) (drop_at id (124 ∷ code) 15 long)) ∙ value ∙ ap (λ (p : ℕ × Option ℕ). Some p.1) pair;
    }
two_fields id code e _ _ are value gives = cc

row_from_parts : (parts : List (List ℕ)) (e : ℕ × Option ℕ) → fields_of parts ≡ Some e → IsRow (join_with_byte 124 parts) e
row_from_parts (id ∷ code ∷ []) e gives = two_fields id code e (are_digits 15 id) (code_value code) refl refl gives
row_from_parts _ e gives = cc

pub row_from_fields : (line : List ℕ) (e : ℕ × Option ℕ) → fields_of (fields line) ≡ Some e → IsRow line e
row_from_fields line e gives = rw join_with_byte-slice_split at (row_from_parts (fields line) e gives)

abbrev IsNoBar : ℕ → Type 0
IsNoBar b = eqb b 124 ≡ false

-- what holds of digits holds of each byte of a text of digits
pub digits_all : (P : ℕ → Type 0) → ((b : ℕ) → is_ascii_digit b ≡ true → P b) → (bytes : List ℕ) → list_all is_ascii_digit bytes ≡ true → All P bytes
digits_all P digit bytes are = All-weaker (λ b. is_ascii_digit b ≡ true) P digit bytes (AllPass-from_list_all is_ascii_digit bytes are)

not_a_bar : (bytes : List ℕ) → list_all is_ascii_digit bytes ≡ true → All IsNoBar bytes
not_a_bar = digits_all IsNoBar (λ b is. grind (arith, nat_tests))

two_letters : All IsNoBar (codes "ZZ")
two_letters = All-cons IsNoBar 90 (90 ∷ []) refl (All-cons IsNoBar 90 [] refl (All-nil IsNoBar))

three_letters : All IsNoBar (codes "ZZZ")
three_letters = All-cons IsNoBar 90 (90 ∷ 90 ∷ []) refl two_letters

unassigned_without_bar : (code : List ℕ) → ((eqb (length code) 0 || pointwise nat_eq code (codes "ZZ")) || pointwise nat_eq code (codes "ZZZ")) ≡ true → All IsNoBar code
unassigned_without_bar code is = search (rules, All-same, nil_from_length, eqb-true, All-nil, bytes_eq-Decides, two_letters, or_cases, three_letters)

code_without_bar : (code : List ℕ) (v : Option ℕ) → code_value code ≡ Some v → All IsNoBar code
code_without_bar code v = by_tests
    ((eqb (length code) 0 || pointwise nat_eq code (codes "ZZ")) || pointwise nat_eq code (codes "ZZZ"))
    (nat_le (length code) 3 && list_all is_ascii_digit code)
    (unassigned_without_bar code) (λ are. not_a_bar code (and_parts _ _ are).1)
  where
    by_tests : (b c : Bool) → (b ≡ true → All IsNoBar code) → (c ≡ true → All IsNoBar code) → ◌≡◌ {A = Option (Option ℕ)} (cond b (Some None) (cond c (Some (Some (digits_value 10 code))) None)) (Some v) → All IsNoBar code
    by_tests true c first second is = first refl
    by_tests false true first second is = second refl
    by_tests false false first second is = cc

pub fields_from_row : (line : List ℕ) (e : ℕ × Option ℕ) → IsRow line e → fields_of (fields line) ≡ Some e
fields_from_row line e row = ap fields_of two ∙ rw (id.0, row.code) (ap (λ (n : ℕ). Some (n, e.1)) id.1)
  where
    id : (are_digits 15 (take 15 line) ≡ true) × (digits_value 10 (take 15 line) ≡ e.0)
    id = cond_some (are_digits 15 (take 15 line)) (digits_value 10 (take 15 line)) e.0 row.id

    whole : take 15 line ++ 124 ∷ drop 16 line ≡ line
    whole = ap (λ (c : ℕ). take 15 line ++ c ∷ drop 16 line) (sym row.bar) ∙ ap (λ more. take 15 line ++ more) (sym (drop_more line 15 0 row.long)) ∙ take-append-drop 15 line

    two : fields line ≡ take 15 line ∷ drop 16 line ∷ []
    two = ap fields (sym whole)
        ∙ slice_split_at (λ b. eqb b 124) (take 15 line) 124 (drop 16 line) (not_a_bar (take 15 line) (and_parts (eqb (length (take 15 line)) 15) (list_all is_ascii_digit (take 15 line)) id.0).1) refl
        ∙ ap (λ (more : List (List ℕ)). take 15 line ∷ more) (slice_split_none (λ b. eqb b 124) (drop 16 line) (code_without_bar (drop 16 line) e.1 row.code))

-- what a reading of the parts says of the whole line
pub no_row : (line : List ℕ) → ((e : ℕ × Option ℕ) → ¬ IsRow line e) → None ≡ fields_of (fields line)
no_row line none = by_value (fields_of (fields line)) (row_from_fields line)
  where
    by_value : (o : Option (ℕ × Option ℕ)) → ((e : ℕ × Option ℕ) → o ≡ Some e → IsRow line e) → None ≡ o
    by_value None says = refl
    by_value (Some e) says = absurd (none e (says e refl))
