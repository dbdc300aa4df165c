-- A printed text is read line by line.
use Rattle.std.{specs.{Char.is_ascii_digit, List.{list_all, flat_map, zip}, Prelude.{codes, AllPairs}, Str.Lines.{lines, strip_carriage_return}}, proofs.Math.Dec.eqb-suc-zero}
use Rattle.std.proofs.Common.{◌≡◌, ℕ, ◌+◌, ◌-◌, ◌<◌, ◌≤◌, ◌^◌, true, false, not, ◌&&◌, eqb, List, [], ◌∷◌, ◌++◌, map, length, get_or, zero, suc, refl, sym, ◌∙◌, ap, arith, All, Some, Result, Ok, append_assoc, length-append, rules}
use Rattle.std.proofs.lemmas.{Bool.{ne_eqb, eq-eqb, and_parts, and_from, cond-true, cond-false, not-true, Decides.nat_tests}, List.{length-map, Kept.AllPairs-from_increasing}}
use Rattle.{std.proofs.lemmas.List.{Elements.{All-cons, All-append, All-head, All-tail, All-weaker, Contains-get_or}, Sums.AllPass-from_list_all}, baf_text.specs.Listed.listed_of}
use Rattle.{std.proofs.lemmas.Slice.Zip.{get_or-zip, length-zip, seconds-zip}, baf_text.specs.{Body.{IsBody, value_of}, Laws.{IsAssignment, PrintedIsRead}}}
use Rattle.desk_model.specs.claim.{Baf.{Values, Fault, value_at, fields_of, body_read, header, with_header}, Geography.{GeographyModel, ids}, GeographyModels.AreBlocks}
use Rattle.desk_model.specs.{claim.{Padded.padded_decimal, Printed.{code_text, row_text, printed}, Sizes.most_districts}, declared.{block.BlockRow.BlockRow, kind.Kind.Kind}}
use Rattle.{desk_model.specs.declared.kind.Kind.TheVariants.Congress, field_text.specs.claim.Fields.fields, baf_text.proofs.Rows.{digits_all, two_fields, fields_from_row}}
use Rattle.baf_text.proofs.{Codes.{Writes, padded_writes, said, code_again, in_range_again}, Listing.{body_listed, rows_first, somes, value_in, with_bytes}}
use Rattle.field_text.proofs.TextLemmas.{lines-cut}

-- a byte that ends no line
record IsInLine (b : ℕ) : Type 0 where
  feed : eqb b 10 ≡ false
  return : eqb b 13 ≡ false

digits_in_line : (bytes : List ℕ) → list_all is_ascii_digit bytes ≡ true → All IsInLine bytes
digits_in_line = digits_all IsInLine (λ b is. record { feed = grind (arith, nat_tests); return = grind (arith, nat_tests) })

-- by a test, for a text that is written out
in_line : (bytes : List ℕ) → list_all (λ b. not (eqb b 10) && not (eqb b 13)) bytes ≡ true → All IsInLine bytes
in_line bytes are = All-weaker (λ b. (not (eqb b 10) && not (eqb b 13)) ≡ true) IsInLine
    (λ b is. let here = and_parts (not (eqb b 10)) (not (eqb b 13)) is in record { feed = not-true _ here.0; return = not-true _ here.1 })
    bytes (AllPass-from_list_all (λ b. not (eqb b 10) && not (eqb b 13)) bytes are)

code_in_line : (kind : Kind) (d : ℕ) → d ≤ most_districts kind → All IsInLine (code_text kind d)
code_in_line Congress zero most = in_line (codes "ZZ") refl
code_in_line Congress (suc d) most = rw (eqb-suc-zero d) (digits_in_line (padded_decimal 2 (suc d)) (padded_writes 2 (suc d) (omega arith) (omega arith) (omega arith)).digits)
code_in_line _ zero most = in_line (codes "ZZZ") refl
code_in_line _ (suc d) most = rw (eqb-suc-zero d) (digits_in_line (padded_decimal 3 (suc d)) (padded_writes 3 (suc d) (omega arith) (omega arith) (omega arith)).digits)

-- the line of a block, without its end
abbrev row_line : Kind → ℕ × ℕ → List ℕ
row_line kind row = padded_decimal 15 row.0 ++ 124 ∷ code_text kind row.1

-- a row that the codes of the kind can write
pub record IsPrintable (kind : Kind) (row : ℕ × ℕ) : Type 0 where
  pub id : row.0 < 10 ^ 15
  pub district : row.1 ≤ most_districts kind

id_writes : (kind : Kind) (row : ℕ × ℕ) → IsPrintable kind row → Writes 15 row.0 (padded_decimal 15 row.0)
id_writes kind row is = padded_writes 15 row.0 (omega arith) is.id (omega (arith, is.id))

row_in_line : (kind : Kind) (row : ℕ × ℕ) → IsPrintable kind row → All IsInLine (row_line kind row)
row_in_line kind row is =
    All-append IsInLine (padded_decimal 15 row.0) (124 ∷ code_text kind row.1) (digits_in_line (padded_decimal 15 row.0) (id_writes kind row is).digits)
    (All-cons IsInLine 124 (code_text kind row.1) (record { feed = refl; return = refl }) (code_in_line kind row.1 is.district))

-- without a carriage return nothing is taken from a line's end
unstripped : (line : List ℕ) → All IsInLine line → strip_carriage_return line ≡ line
unstripped [] are = refl
unstripped (b ∷ line) are = cond-false _ _ _ (are (length (b ∷ line) - 1) 0 (omega arith)).return

line_cut : (line rest : List ℕ) → All IsInLine line → lines (line ++ 10 ∷ rest) ≡ line ∷ lines rest
line_cut line rest are = lines-cut line rest (λ k d inside. (are k d inside).feed) ∙ ap (λ (first : List ℕ). first ∷ lines rest) (unstripped line are)

rows_cut : (kind : Kind) (rows : List (ℕ × ℕ)) → All (IsPrintable kind) rows → lines (flat_map (row_text kind) rows) ≡ map (row_line kind) rows
rows_cut kind [] are = refl
rows_cut kind (row ∷ rows) are =
    ap lines (append_assoc (row_line kind row) (10 ∷ []) (flat_map (row_text kind) rows))
    ∙ line_cut (row_line kind row) (flat_map (row_text kind) rows) (row_in_line kind row (All-head (IsPrintable kind) row rows are))
    ∙ ap (λ (more : List (List ℕ)). row_line kind row ∷ more) (rows_cut kind rows (All-tail (IsPrintable kind) row rows are))

fields_again : (kind : Kind) (row : ℕ × ℕ) → IsPrintable kind row → fields_of (fields (row_line kind row)) ≡ Some (row.0, said row.1)
fields_again kind row is =
    fields_from_row (row_line kind row) (row.0, said row.1)
    (two_fields (padded_decimal 15 row.0) (code_text kind row.1) (row.0, said row.1) true (Some (said row.1))
    (and_from _ _ (eq-eqb _ 15 id.long) id.digits) (code_again kind row.1 is.district) (ap (λ (n : ℕ). Some (n, said row.1)) id.value))
  where
    id : Writes 15 row.0 (padded_decimal 15 row.0)
    id = id_writes kind row is

not_empty : (kind : Kind) (row : ℕ × ℕ) → eqb (length (row_line kind row)) 0 ≡ false
not_empty kind row = ne_eqb _ 0 (λ e. omega (arith, length-append (padded_decimal 15 row.0) (124 ∷ code_text kind row.1)))

same_cons : {A : Type 0} (x y : A) (xs ys : List A) → x ≡ y → xs ≡ ys → x ∷ xs ≡ y ∷ ys
same_cons x y xs ys first more = ap (λ a. a ∷ xs) first ∙ ap (λ rest. y ∷ rest) more

rows_said : (kind : Kind) (n : ℕ) (rows : List (ℕ × ℕ)) → All (λ row. IsPrintable kind row × (row.1 ≤ n)) rows
    → map (value_in n) (with_bytes (map (row_line kind) rows)) ≡ somes rows
rows_said kind n [] are = refl
rows_said kind n (row ∷ rows) are =
    let first = are 0 row (omega arith) in
    let says : value_in n (row_line kind row) ≡ Some row = ap (value_of n) (fields_again kind row first.0) ∙ rw (in_range_again n row.1 first.1) refl in
    rows_first n (row_line kind row) (map (row_line kind) rows) (not_empty kind row)
    ∙ same_cons _ _ _ _ says (rows_said kind n rows (All-tail (λ row. IsPrintable kind row × (row.1 ≤ n)) row rows are))

as_many : (g : GeographyModel) (n : ℕ) (f : List ℕ) → IsAssignment g n f → length f ≡ length (ids g)
as_many g n f is = is.whole ∙ sym (length-map g.blocks (λ (b : BlockRow). b.id))

-- the printed text, read
module _ (kind : Kind) (g : GeographyModel) (n : ℕ) (f : List ℕ) (blocks : AreBlocks g.blocks) (small : All (λ id. id < 10 ^ 15) (ids g)) (most : n ≤ most_districts kind) (is : IsAssignment g n f) where
  within : (k : ℕ) → k < length (zip (ids g) f) → (k < length (ids g)) × (k < length f)
  within k inside = let same = as_many g n f is in (omega (arith, length-zip (ids g) f), omega (arith, length-zip (ids g) f))

  at : (k : ℕ) (e : ℕ × ℕ) → k < length (zip (ids g) f) → get_or (zip (ids g) f) k e ≡ (get_or (ids g) k e.0, get_or f k e.1)
  at k e inside = get_or-zip (ids g) f k e (within k inside).0 (within k inside).1

  each : All (λ row. IsPrintable kind row × (row.1 ≤ n)) (zip (ids g) f)
  each k e inside =
      let le = is.in_range k e.1 (within k inside).1 in
      rw (at k e inside) (record { id = small k e.0 (within k inside).0; district = omega (arith, le) }, le)

  body : IsBody g n (header ∷ map (row_line kind) (zip (ids g) f)) (zip (ids g) f)
  body = record {
    first = refl;
    rows = rows_said kind n (zip (ids g) f) each;
    known = λ k e inside. rw (at k e inside) (Contains-get_or (ids g) k e.0 (within k inside).0);
    once = λ i j e less inside.
        let rises = AllPairs-from_increasing (ids g) blocks.rising i j e.0 less (within j inside).0 in
        rw (at i e (omega arith), at j e inside) (λ same. omega (arith, rises, same));
  }

  printed_again : body_read g n (printed g kind f) ≡ Ok (zip (ids g) f)
  printed_again =
      ap (with_header g n) (line_cut header (flat_map (row_text kind) (zip (ids g) f)) (in_line header refl)
      ∙ ap (λ (ls : List (List ℕ)). header ∷ ls) (rows_cut kind (zip (ids g) f) (λ k e inside. (each k e inside).0)))
      ∙ body_listed g n (header ∷ map (row_line kind) (zip (ids g) f)) (zip (ids g) f) body

-- each block has its district
listed_again : (xs ds : List ℕ) → length ds ≡ length xs → AllPairs (λ x y. x < y) xs → map (value_at (zip xs ds)) xs ≡ map (λ d. Some d) ds
listed_again [] [] same rising = refl
listed_again [] (d ∷ ds) same rising = absurd (omega arith)
listed_again (x ∷ xs) [] same rising = absurd (omega arith)
listed_again (x ∷ xs) (d ∷ ds) same rising =
    same_cons _ _ _ _ (cond-true (eqb x x) (Some d) _ (eq-eqb x x refl))
    (skipped xs (λ k e inside. rising zero (suc k) e (omega arith) (omega arith))
    ∙ listed_again xs ds (omega arith) (λ i j e less inside. rising (suc i) (suc j) e (omega arith) (omega arith)))
  where
    skipped : (more : List ℕ) → All (λ y. x < y) more → map (value_at ((x, d) ∷ zip xs ds)) more ≡ map (value_at (zip xs ds)) more
    skipped [] above = refl
    skipped (y ∷ more) above =
        same_cons _ _ _ _
        (cond-false (eqb x y) (Some d) (value_at (zip xs ds) y) (ne_eqb x y (λ e. omega (arith, All-head (λ y. x < y) y more above))))
        (skipped more (All-tail (λ y. x < y) y more above))

values_again : (g : GeographyModel) (n : ℕ) (f : List ℕ) → AreBlocks g.blocks → IsAssignment g n f → listed_of g (zip (ids g) f) ≡ map (λ d. Some d) f
values_again g n f blocks is = search (rules, listed_again, length-map, AllPairs-from_increasing)

pub printed_is_read : PrintedIsRead
printed_is_read g kind n f blocks small most is = record {
  read = printed_again kind g n f blocks small most is;
  values = values_again g n f blocks is;
  alone = λ other other_is same.
      let both : ◌≡◌ {A = Result Values Fault} (Ok (zip (ids g) other)) (Ok (zip (ids g) f)) =
      sym (printed_again kind g n other blocks small most other_is) ∙ ap (body_read g n) same ∙ printed_again kind g n f blocks small most is in
      let zips : zip (ids g) other ≡ zip (ids g) f = cc both in
      sym (seconds-zip (ids g) other (as_many g n other other_is)) ∙ ap (map (λ (p : ℕ × ℕ). p.1)) zips ∙ seconds-zip (ids g) f (as_many g n f is);
}
