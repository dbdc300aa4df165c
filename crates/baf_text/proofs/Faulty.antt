-- The first line with a fault.
use Rattle.std.{specs.{Cmp.Lexicographic.pointwise, Prelude.nat_eq, Str.Lines.lines}, proofs.lemmas.Bool.{cases_Bool, both_ways, eqb-false, ne_eqb, false_from_ne_true}}
use Rattle.std.proofs.Common.{◌≡◌, ◌≢◌, ◌⊎◌, ⊎_elim, ℕ, ◌+◌, true, false, eqb, List, [], ◌∷◌, ◌++◌, length, suc, refl, sym, ◌∙◌, ap, arith, add-zero, Result, Ok, Err, rules}
use Rattle.{std.proofs.lemmas.{Option.same_Some, Slice.Eq.bytes_eq-Decides}, baf_text.specs.Body.{IsBody, IsFaultyLine, HasNoHeader, FaultIsFirst}}
use Rattle.desk_model.specs.{claim.{Baf.{Values, header, fields_of, line_read, at_line, rows_read, with_header}, Geography.GeographyModel}, declared.reply.BodyFault.BodyFault}
use Rattle.{field_text.specs.claim.Fields.fields, baf_text.proofs.Listing.{body_lists, body_listed, goes_on}}

-- the lines up to a fault, read from some values on
record FaultIn (g : GeographyModel) (n at : ℕ) (so_far : Values) (ls : List (List ℕ)) (code : BodyFault) (told : ℕ) : Type 0 where
  before : List (List ℕ)
  line : List ℕ
  after : List (List ℕ)
  was : Values
  cut : ls ≡ before ++ line ∷ after
  number : told ≡ at + length before
  reads : rows_read g n at so_far before ≡ Ok was
  bytes : length line ≢ 0
  fault : line_read g n was (fields_of (fields line)) ≡ Err code

fault_here : (g : GeographyModel) (n at : ℕ) (so_far : Values) (line : List ℕ) (ls : List (List ℕ)) (code : BodyFault) (told : ℕ) → length line ≢ 0
    → line_read g n so_far (fields_of (fields line)) ≡ Err code → at ≡ told → FaultIn g n at so_far (line ∷ ls) code told
fault_here g n at so_far line ls code told bytes fault same =
    record { before = []; line = line; after = ls; was = so_far; cut = refl; number = omega arith; reads = refl; bytes = bytes; fault = fault }

fault_later : (g : GeographyModel) (n at : ℕ) (so_far next : Values) (line : List ℕ) (ls : List (List ℕ)) (code : BodyFault) (told : ℕ)
    → ((more : List (List ℕ)) → rows_read g n at so_far (line ∷ more) ≡ rows_read g n (at + 1) next more) → FaultIn g n (at + 1) next ls code told
    → FaultIn g n at so_far (line ∷ ls) code told
fault_later g n at so_far next line ls code told steps f =
    let all = line ∷ f.before in
    let cut = ap (λ (xs : List (List ℕ)). line ∷ xs) f.cut in
    let number : told ≡ at + length all = omega (arith, f.number) in
    let reads = steps f.before ∙ f.reads in
    record { before = all; line = f.line; after = f.after; was = f.was; cut = cut; number = number; reads = reads; bytes = f.bytes; fault = f.fault }

rows_fault : (g : GeographyModel) (n at : ℕ) (so_far : Values) (ls : List (List ℕ)) (code : BodyFault) (told : ℕ) → rows_read g n at so_far ls ≡ Err (code, told)
    → FaultIn g n at so_far ls code told
rows_fault g n at so_far [] code told is = cc
rows_fault g n at so_far (line ∷ ls) code told is = ⊎_elim
    (λ (empty : eqb (length line) 0 ≡ true).
    fault_later g n at so_far so_far line ls code told (λ more. rw empty refl) (rows_fault g n (at + 1) so_far ls code told (rw empty at is)))
    (λ (bytes : eqb (length line) 0 ≡ false).
    by_line bytes (line_read g n so_far (fields_of (fields line))) refl (rw bytes at is) (λ next later. rows_fault g n (at + 1) next ls code told later))
    (cases_Bool (eqb (length line) 0))
  where
    by_line : eqb (length line) 0 ≡ false → (r : Result Values BodyFault) → line_read g n so_far (fields_of (fields line)) ≡ r
        → at_line at r (λ next. rows_read g n (at + 1) next ls) ≡ Err (code, told)
        → ((next : Values) → rows_read g n (at + 1) next ls ≡ Err (code, told) → FaultIn g n (at + 1) next ls code told) → FaultIn g n at so_far (line ∷ ls) code told
    by_line bytes (Ok next) read is later = search (rules, fault_later)
    by_line bytes (Err e) read is later = search (rules, fault_here, eqb-false)

-- the lines after those that were read
rows_after : (g : GeographyModel) (n at : ℕ) (so_far : Values) (xs ys : List (List ℕ)) (values : Values) → rows_read g n at so_far xs ≡ Ok values
    → rows_read g n at so_far (xs ++ ys) ≡ rows_read g n (at + length xs) values ys
rows_after g n at so_far [] ys values ok = search (rules, add-zero)
rows_after g n at so_far (line ∷ xs) ys values ok =
    ⊎_elim
    (λ (empty : eqb (length line) 0 ≡ true).
    rw empty (rows_after g n (at + 1) so_far xs ys values (rw empty at ok) ∙ further))
    (λ (bytes : eqb (length line) 0 ≡ false).
    let on = goes_on g n at so_far line xs values (rw bytes at ok) in
    rw (bytes, on.line_is) (rows_after g n (at + 1) on.next xs ys values on.rest_is ∙ further))
    (cases_Bool (eqb (length line) 0))
  where
    further : rows_read g n (at + 1 + length xs) values ys ≡ rows_read g n (at + suc (length xs)) values ys
    further = ap (λ k. rows_read g n k values ys) (omega arith)

told_first : (g : GeographyModel) (n : ℕ) (ls : List (List ℕ)) (code : BodyFault) (at : ℕ) → with_header g n ls ≡ Err (code, at) → HasNoHeader ls code at ⊎ IsFaultyLine g n ls code at
told_first g n [] code at is = search rules
told_first g n (first ∷ more) code at is = ⊎_elim
    (λ (same : pointwise nat_eq first header ≡ true).
    let f = rows_fault g n 2 [] more code at (rw same at is) in
    let ok : with_header g n (first ∷ f.before) ≡ Ok f.was = rw same f.reads in
    search (arith, body_lists g n (first ∷ f.before) f.was ok))
    (λ (other : pointwise nat_eq first header ≡ false). search (rules, both_ways))
    (cases_Bool (pointwise nat_eq first header))

header_told : (g : GeographyModel) (n : ℕ) (ls : List (List ℕ)) (code : BodyFault) (at : ℕ) → HasNoHeader ls code at → with_header g n ls ≡ Err (code, at)
header_told g n [] code at is = ap (λ (c : BodyFault). Err (c, 1)) (sym is.told) ∙ ap (λ (k : ℕ). Err (code, k)) (sym is.number)
header_told g n (first ∷ more) code at is = search (rules, false_from_ne_true, bytes_eq-Decides)

line_told : (g : GeographyModel) (n : ℕ) (before : List (List ℕ)) (line : List ℕ) (after : List (List ℕ)) (values : Values) (code : BodyFault) → IsBody g n before values
    → length line ≢ 0 → line_read g n values (fields_of (fields line)) ≡ Err code → with_header g n (before ++ line ∷ after) ≡ Err (code, length before + 1)
line_told g n [] line after values code body bytes fault = let first = body.first in cc
line_told g n (first ∷ before) line after values code body bytes fault =
    let same : pointwise nat_eq first header ≡ true = (bytes_eq-Decides first header).1 (same_Some first header body.first) in
    let ok = rw same at (body_listed g n (first ∷ before) values body) in
    let some : eqb (length line) 0 ≡ false = ne_eqb (length line) 0 bytes in
    rw same (rows_after g n 2 [] before (line ∷ after) values ok ∙ rw (some, fault) (ap (λ (k : ℕ). Err (code, k)) (omega arith)))

first_told : (g : GeographyModel) (n : ℕ) (ls : List (List ℕ)) (code : BodyFault) (at : ℕ) → HasNoHeader ls code at ⊎ IsFaultyLine g n ls code at → with_header g n ls ≡ Err (code, at)
first_told g n ls code at is = search (rules, header_told, line_told)

pub fault_is_first : FaultIsFirst
fault_is_first g n text code at = (told_first g n (lines text) code at, first_told g n (lines text) code at)
