-- A printed line: how long it is, and what the next line has of it.
use Rattle.std.proofs.Common.{sym, set, ◌≤◌, ◌≡◌, ℕ, zero, suc, ◌+◌, ◌-◌, ◌/◌, ◌%◌, ◌<◌, ◌^◌, List, [], ◌∷◌, ◌++◌, length, replicate, refl, ◌∙◌, ap, arith, append_assoc, length-append, rules}
use Rattle.std.proofs.{Math.Dec.eqb-suc-zero, lemmas.{Bool.cases_lt, Fmt.{decimal_digit, decimal_step, length-decimal-le}, List.{length_push, replicate_more, set_at}}}
use Rattle.{baf_text.specs.Ends.line_length, desk_model.specs.{claim.{Padded.padded_decimal, Printed.{code_text, row_text}, Sizes.most_districts}, declared.kind.Kind.Kind}}
use Rattle.{desk_model.specs.declared.kind.Kind.TheVariants.Congress, baf_text.proofs.Printing.length-padded}

by_zeros : (k n : ℕ) (ds ts : List ℕ) → 0 < k → n < 10 → ds ≡ (48 + n) ∷ [] → ts ≡ 48 ∷ []
    → replicate (k + 1 - length ds) 48 ++ ds ≡ (replicate (k - length ts) 48 ++ ts) ++ (48 + n) ∷ []
by_zeros zero n ds ts some small is tens = absurd (omega arith)
by_zeros (suc m) n ds ts some small is tens =
    let a : suc m + 1 - 1 ≡ m + 1 = omega arith in
    let b : suc m - 1 ≡ m = omega arith in
    rw (is, tens, a, b) (ap (λ (t : List ℕ). t ++ (48 + n) ∷ []) (sym (replicate_more m 48)))

by_digits : (k c : ℕ) (ds ts : List ℕ) → ds ≡ ts ++ c ∷ [] → replicate (k + 1 - length ds) 48 ++ ds ≡ (replicate (k - length ts) 48 ++ ts) ++ c ∷ []
by_digits k c ds ts is = search (rules, length-append, append_assoc)

-- the last digit of a number that has zeros before it
padded_step : (k n : ℕ) → 0 < k → n < 2 ^ 64 → padded_decimal (k + 1) n ≡ padded_decimal k (n / 10) ++ (48 + n % 10) ∷ []
padded_step k n some word = search (rules, cases_lt, by_zeros, decimal_digit, by_digits, decimal_step)

-- a number with just so many digits, zeros before it
pub length_within : (width n : ℕ) → 0 < width → n < 10 ^ width → n < 2 ^ 64 → length (padded_decimal width n) ≡ width
length_within width n some small word = omega (arith, length-padded width n, length-decimal-le width n some small word)

length_code : (kind : Kind) (d : ℕ) → d ≤ most_districts kind → length (code_text kind d) + 17 ≡ line_length kind
length_code Congress zero small = refl
length_code Congress (suc d) small = rw (eqb-suc-zero d, length_within 2 (suc d) (omega arith) (omega arith) (omega arith)) refl
length_code _ zero small = refl
length_code _ (suc d) small = rw (eqb-suc-zero d, length_within 3 (suc d) (omega arith) (omega arith) (omega arith)) refl

pub length_row : (kind : Kind) (id d : ℕ) → id < 10 ^ 15 → d ≤ most_districts kind → length (row_text kind (id, d)) ≡ line_length kind
length_row kind id d block small = search (rules, length-append, length_within, length_code)

-- the bytes after a prefix
two_set : (p : List ℕ) (n a b x y : ℕ) (rest : List ℕ) → n ≡ length p → set (set (p ++ a ∷ b ∷ rest) n x) (n + 1) y ≡ p ++ x ∷ y ∷ rest
two_set p n a b x y rest is =
    ap (λ (l : List ℕ). set l (n + 1) y) (set_at p a (b ∷ rest) x n (sym is) ∙ sym (append_assoc p (x ∷ []) (b ∷ rest)))
    ∙ set_at (p ++ x ∷ []) b rest y (n + 1) (omega (arith, length_push p x)) ∙ append_assoc p (x ∷ []) (y ∷ rest)

padded_cut : (n : ℕ) → n < 2 ^ 64 → padded_decimal 15 n ≡ padded_decimal 13 (n / 100) ++ (48 + n / 10 % 10) ∷ (48 + n % 10) ∷ []
padded_cut n word =
    let two : n / 10 / 10 ≡ n / 100 = omega arith in
    padded_step 14 n (omega arith) word
    ∙ ap (λ (t : List ℕ). t ++ (48 + n % 10) ∷ []) (rw two at (padded_step 13 (n / 10) (omega arith) (omega arith)))
    ∙ append_assoc (padded_decimal 13 (n / 100)) ((48 + n / 10 % 10) ∷ []) ((48 + n % 10) ∷ [])

row_cut : (kind : Kind) (n d : ℕ) → n < 2 ^ 64 → row_text kind (n, d) ≡ padded_decimal 13 (n / 100) ++ (48 + n / 10 % 10) ∷ (48 + n % 10) ∷ 124 ∷ (code_text kind d ++ 10 ∷ [])
row_cut kind n d word = search (rules, padded_cut, append_assoc)

-- the line of a block whose number has other last two digits
pub row_turned : (kind : Kind) (old new d x y : ℕ) (cells : List ℕ) → new < 10 ^ 15 → old / 100 ≡ new / 100 → cells ≡ row_text kind (old, d)
    → x ≡ 48 + new / 10 % 10 → y ≡ 48 + new % 10 → set (set cells 13 x) 14 y ≡ row_text kind (new, d)
row_turned kind old new d x y cells block near is tens ones = search (rules, row_cut, two_set, length_within)

-- a block's number that has other last two digits
pub number_turned : (old new x y : ℕ) (cells : List ℕ) → new < 10 ^ 15 → old / 100 ≡ new / 100 → cells ≡ padded_decimal 15 old
    → x ≡ 48 + new / 10 % 10 → y ≡ 48 + new % 10 → set (set cells 13 x) 14 y ≡ padded_decimal 15 new
number_turned old new x y cells block near is tens ones = search (rules, padded_cut, two_set, length_within)
