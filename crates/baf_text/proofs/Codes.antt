-- The fields of a printed line, as they are read.
use Rattle.std.{specs.{Char.is_ascii_digit, Cmp.Lexicographic.pointwise, Fmt.decimal, List.list_all, Prelude.nat_eq, Str.Parse.digits_value}, proofs.Math.Dec.eqb-suc-zero}
use Rattle.std.proofs.Common.{◌≡◌, ℕ, ◌-◌, ◌<◌, ◌≤◌, ◌^◌, true, false, cond, eqb, List, ◌++◌, length, replicate, zero, suc, refl, ◌∙◌, arith, Option, Some, None, rules}
use Rattle.std.proofs.lemmas.{Bool.{ne_eqb, eqb-true, le-leb, and_from, and_parts, false_from_ne_true}, Fmt.{length-decimal-le, digits_decimal, digits_value-decimal}}
use Rattle.{std.proofs.lemmas.{List.Folds.list_all-append, Option.cond_some, Slice.Eq.bytes_eq-Decides}, desk_model.specs.claim.{Baf.{code_value, in_range}, Padded.padded_decimal}}
use Rattle.{desk_model.specs.{claim.{Printed.code_text, Sizes.most_districts}, declared.kind.Kind.{Kind, TheVariants.Congress}}, field_text.specs.claim.Digits.number_of_digits}
use Rattle.baf_text.proofs.{Printing.length-padded, Rows.own}

-- so many digits, which write n
pub record Writes (width n : ℕ) (text : List ℕ) : Type 0 where
  pub long : length text ≡ width
  pub digits : list_all is_ascii_digit text ≡ true
  pub value : digits_value 10 text ≡ n

zeros_are_digits : (k : ℕ) → list_all is_ascii_digit (replicate k 48) ≡ true
zeros_are_digits zero = refl
zeros_are_digits (suc k) = zeros_are_digits k

value_after_zeros : (k : ℕ) (text : List ℕ) → digits_value 10 (replicate k 48 ++ text) ≡ digits_value 10 text
value_after_zeros zero text = refl
value_after_zeros (suc k) text = value_after_zeros k text

pub padded_writes : (width n : ℕ) → 0 < width → n < 10 ^ width → n < 2 ^ 64 → Writes width n (padded_decimal width n)
padded_writes width n some small word = record {
  long = omega (arith, length-padded width n, length-decimal-le width n some small word);
  digits = list_all-append is_ascii_digit (replicate zeros 48) (decimal n) ∙ and_from _ _ (zeros_are_digits zeros) (digits_decimal own n word);
  value = value_after_zeros zeros (decimal n) ∙ digits_value-decimal own n word;
}
  where
    zeros : ℕ
    zeros = width - length (decimal n)

-- digits aren't letters
no_letters : (text letters : List ℕ) → list_all is_ascii_digit text ≡ true → list_all is_ascii_digit letters ≡ false → pointwise nat_eq text letters ≡ false
no_letters text letters digits not = search (rules, false_from_ne_true, bytes_eq-Decides)

code_of_digits : (width n : ℕ) (text : List ℕ) → 0 < width → width ≤ 3 → Writes width n text → code_value text ≡ Some (Some n)
code_of_digits width n text some few w = search (rules, ne_eqb, no_letters, le-leb)

pub code_of_three : (code : List ℕ) (v : ℕ) → number_of_digits 3 code ≡ Some v → code_value code ≡ Some (Some v)
code_of_three code v is = search (rules, cond_some, and_parts, code_of_digits, eqb-true)

-- what a code says: nothing, or the district
abbrev pub said : ℕ → Option ℕ
said d = cond (eqb d 0) None (Some d)

pub code_again : (kind : Kind) (d : ℕ) → d ≤ most_districts kind → code_value (code_text kind d) ≡ Some (said d)
code_again Congress zero most = refl
code_again Congress (suc d) most = rw (eqb-suc-zero d) (code_of_digits 2 (suc d) _ (omega arith) (omega arith) (padded_writes 2 (suc d) (omega arith) (omega arith) (omega arith)))
code_again _ zero most = refl
code_again _ (suc d) most = rw (eqb-suc-zero d) (code_of_digits 3 (suc d) _ (omega arith) (omega arith) (padded_writes 3 (suc d) (omega arith) (omega arith) (omega arith)))

pub in_range_again : (n d : ℕ) → d ≤ n → in_range n (said d) ≡ Some d
in_range_again n zero le = refl
in_range_again n (suc d) le = rw (eqb-suc-zero d, le-leb 1 (suc d) (omega arith), le-leb (suc d) n le) refl
