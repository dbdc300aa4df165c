-- The four files line by line, and in one view.
use Rattle.std.{specs.{List.{list_any, IsDistinct}, Option.option_map, Str.Lines.lines}, proofs.lemmas.{Bool.false≢true, Cmp.nat_eq_equiv, List.map-append, Option.IfSome_then}}
use Rattle.std.proofs.Common.{◌≡◌, ℕ, Bool, true, false, cond, ◌||◌, ◌&&◌, eqb, List, [], ◌∷◌, ◌++◌, map, get_or, sum_by, Option, Some, None, IfSome, Result, Ok, Err, is_some, is_none, is_ok, unwrap_or, refl, sym, ap, subst, ◌∙◌, arith, nat_eq, IsPermutation, rules}
use Rattle.{std.proofs.lemmas.{List.Elements.{filter_map-append, All-push}, Map.Keys.IsDistinct-push}, byte_stream.specs.claim.Judged.AreGood, pl94_geo.specs.claim.Judging.entries}
use Rattle.{desk_model.specs.declared.block.BlockRow.BlockRow, pl94_geo.specs.declared.geo.GeoRows.GeoRows, pl94_segment.specs.claim.SegFile.{people_of, IsSegment}}
use Rattle.pl94_segment.specs.{Files.{AreSegmentLines, taken_in, people_in, counted_blocks, counted_people, AreCensusFiles, AreRowsOf}, declared.record.SegRecord.SegRecord}
use Rattle.pl94_segment.specs.{claim.Join.{AreJoined, NoneMissing, lacking_part, taken_numbers, rows_of, total_people, people_at_number}, declared.segment.SegRows.SegRows}
use Rattle.pl94_segment.specs.{claim.Records.{line_read, records, has_number, judged, judge}, declared.record.SegmentLineFault.{SegmentLineFault, TheVariants.RepeatedRecord}}
use Rattle.{pl94_segment.specs.declared.record.SegmentNumber.{SegmentNumber, TheVariants.{One, Two, Three}}, pl94_geo.proofs.HoldingLemmas.cond_none}
use Rattle.{pl94_geo.proofs.{LineLemmas.{all_at, from_good}, WholeLemmas.{whole_from_good, before_differs}}, pl94_segment.proofs.SegLemmas.records-push}

-- ---- a segment

abbrev numbers : List SegRecord → List ℕ
numbers rs = map (λ r. r.number) rs

has_number-numbers : (rs : List SegRecord) (n : ℕ) → has_number rs n ≡ list_any (nat_eq n) (numbers rs)
has_number-numbers [] n = refl
has_number-numbers (r ∷ rs) n = ap (λ (b : Bool). b || has_number rs n) (nat_eq_equiv.symm r.number n) ∙ ap (λ (b : Bool). eqb n r.number || b) (has_number-numbers rs n)

module _ (part : SegmentNumber) where
  segment_more : (ls : List (List ℕ)) (line : List ℕ) (r : Result SegRecord SegmentLineFault) → line_read part line ≡ r → AreSegmentLines part ls → judged (records part ls) r ≡ None
      → AreSegmentLines part (ls ++ line ∷ [])
  segment_more ls line (Err f) is whole none = absurd (cc)
  segment_more ls line (Ok r) is whole none =
      let fresh : list_any (nat_eq r.number) (numbers (records part ls)) ≡ false =
      sym (has_number-numbers (records part ls) r.number) ∙ (cond_none (has_number (records part ls) r.number) RepeatedRecord None none).0 in
      let grown : numbers (records part (ls ++ line ∷ [])) ≡ numbers (records part ls) ++ r.number ∷ [] =
      ap numbers (records-push part ls line r is) ∙ map-append (λ (x : SegRecord). x.number) (records part ls) (r ∷ []) in
      record {
        shaped = All-push (λ l. is_ok (line_read part l) ≡ true) ls line whole.shaped (ap is_ok is);
        different = subst (IsDistinct nat_eq) (sym grown) (IsDistinct-push nat_eq_equiv (numbers (records part ls)) r.number whole.different fresh);
      }

  segment_none : AreSegmentLines part []
  unfolding IsDistinct
  segment_none = record { shaped = λ k d inside. absurd (omega arith); different = tt }

  pub segment_from_good : (ls : List (List ℕ)) → AreGood (judge part) ls → AreSegmentLines part ls
  segment_from_good ls good =
      from_good (judge part) (AreSegmentLines part) segment_none (λ done line whole none. segment_more done line (line_read part line) refl whole none) ls good

  records-cut : (before after : List (List ℕ)) (line : List ℕ) (r : SegRecord) → line_read part line ≡ Ok r → records part (before ++ line ∷ after) ≡ records part before ++ r ∷ records part after
  records-cut before after line r is = search (rules, filter_map-append)

  segment_before : (ls before after : List (List ℕ)) (line : List ℕ) (r : Result SegRecord SegmentLineFault) → line_read part line ≡ r → AreSegmentLines part ls → ls ≡ before ++ line ∷ after
      → judged (records part before) r ≡ None
  segment_before ls before after line (Ok r) is whole cut =
      let all : numbers (records part ls) ≡ numbers (records part before) ++ r.number ∷ numbers (records part after) =
      ap (λ (t : List (List ℕ)). numbers (records part t)) cut ∙ ap numbers (records-cut before after line r is) ∙ map-append (λ (x : SegRecord). x.number) (records part before) (r ∷ records part after) in
      let fresh = before_differs (numbers (records part before)) (numbers (records part after)) r.number (subst (IsDistinct nat_eq) all whole.different) in
      ap (λ (b : Bool). cond b (Some RepeatedRecord) None) (has_number-numbers (records part before) r.number ∙ fresh)
  segment_before ls before after line (Err f) is whole cut =
      absurd (false≢true (sym (ap is_ok is) ∙ all_at (λ l. is_ok (line_read part l) ≡ true) ls before after line cut whole.shaped))

  pub segment_good : (ls : List (List ℕ)) → AreSegmentLines part ls → AreGood (judge part) ls
  segment_good ls whole = record { each = λ before line after cut. segment_before ls before after line (line_read part line) refl whole cut }

  -- the rows' people are the text's
  same_people : (text : List ℕ) (a : SegRows) → IsSegment part (lines text) a → people_of a ≡ people_in part text
  same_people text a s = λ i n. (s.people n) i

-- ---- the join

all_from_none : (x y z : Option ℕ) → cond (is_none x) (Some One) (cond (is_none y) (Some Two) (cond (is_none z) (Some Three) None)) ≡ None → (is_some x && is_some y && is_some z) ≡ true
all_from_none (Some p) (Some q) (Some r) none = refl
all_from_none _ _ _ none = absurd (cc)

none_from_all : (x y z : Option ℕ) → (is_some x && is_some y && is_some z) ≡ true → cond (is_none x) (Some One) (cond (is_none y) (Some Two) (cond (is_none z) (Some Three) None)) ≡ None
none_from_all (Some p) (Some q) (Some r) all = refl
none_from_all _ _ _ all = absurd (cc)

state_to : (o : Option ℕ) (f : ℕ → ℕ) (t : ℕ) → IfSome (option_map f o) (λ s. s ≡ t) → IfSome o (λ n. f n ≡ t)
state_to None f t is = is
state_to (Some n) f t is = is

state_from : (o : Option ℕ) (f : ℕ → ℕ) (t : ℕ) → IfSome o (λ n. f n ≡ t) → IfSome (option_map f o) (λ s. s ≡ t)
state_from None f t is = is
state_from (Some n) f t is = is

module _ (header first second third : List ℕ) (geo : GeoRows) (a b c : SegRows) (r : AreRowsOf header first second third geo a b c) where
  taken_same : taken_numbers geo ≡ taken_in (entries (lines header))
  taken_same = search rules

  lacking_same : (n : ℕ) → lacking_part a b c n
      ≡ cond (is_none (people_in One first n)) (Some One) (cond (is_none (people_in Two second n)) (Some Two) (cond (is_none (people_in Three third n)) (Some Three) None))
  lacking_same n = rw (r.first_rows.people n, r.second_rows.people n, r.third_rows.people n) refl

  rows_same : rows_of geo a ≡ counted_blocks header first
  rows_same = search (rules, unwrap_or, same_people)

  total_same : total_people geo a ≡ counted_people header first
  total_same = ap (sum_by (λ (x : BlockRow). x.population)) rows_same

  number_same : (n : ℕ) → people_at_number a n ≡ unwrap_or (people_in One first n) 0
  number_same n = ap (λ (o : Option ℕ). unwrap_or o 0) (r.first_rows.people n)

  state_back : (o : Option ℕ) → IfSome o (λ n. unwrap_or (people_in One first n) 0 ≡ counted_people header first) → IfSome o (λ n. people_at_number a n ≡ total_people geo a)
  state_back o is = IfSome_then o is (λ n it. number_same n ∙ it ∙ sym total_same)

  pub files_from_join : (rows : List BlockRow) → AreJoined geo a b c rows → AreCensusFiles header first second third rows
  files_from_join rows j =
      let none : NoneMissing a b c (taken_in (entries (lines header))) = subst (NoneMissing a b c) taken_same j.none_missing in
      record {
        header_lines = whole_from_good (lines header) r.header_rows.good;
        first_lines = segment_from_good One (lines first) r.first_rows.good;
        second_lines = segment_from_good Two (lines second) r.second_rows.good;
        third_lines = segment_from_good Three (lines third) r.third_rows.good;
        complete = λ k d inside. all_from_none _ _ _ (sym (lacking_same (get_or (taken_in (entries (lines header))) k d)) ∙ none k d inside);
        total = subst (λ (o : Option ℕ). IfSome o (λ n. unwrap_or (people_in One first n) 0 ≡ counted_people header first)) r.header_rows.state_record
            (IfSome_then geo.state_record (state_to geo.state_record (people_at_number a) (total_people geo a) j.state) (λ n it. sym (number_same n) ∙ it ∙ total_same));
        same = subst (λ (xs : List BlockRow). IsPermutation xs rows) rows_same j.same;
        blocks = j.blocks;
      }

  pub join_from_files : (rows : List BlockRow) → AreCensusFiles header first second third rows → AreJoined geo a b c rows
  join_from_files rows f = search (rules, lacking_same, none_from_all, taken_same, state_from, state_back, unwrap_or, rows_same)
