-- Lines one by one, and all together.
use Rattle.std.{specs.List.{list_any, cons_option, IsDistinct}, proofs.lemmas.{Bool.Decides.nat_tests, Cmp.nat_eq_equiv, List.{get_or_append_left, append-nil, get_or_at}}}
use Rattle.std.proofs.Common.{MatchBool, ◌≡◌, ℕ, zero, suc, ◌+◌, ◌<◌, ◌≤◌, Bool, true, false, not, cond, eqb, leb, List, [], ◌∷◌, ◌++◌, length, get_or, Option, Some, None, Result, Ok, Err, is_some, is_none, is_ok, refl, sym, ap, subst, ◌∙◌, arith, nat_eq, length-append, All, count_by, rules}
use Rattle.std.proofs.lemmas.Bool.{MatchBool-at_true, MatchBool-at_false, eq-eqb, eqb-true, false_from_ne_true, not-false, not_from_true, or_from, or_parts, false≢true}
use Rattle.std.proofs.lemmas.List.{Elements.{filter_map-append, All-push}, Folds.{list_any_none, list_any-append}, Sums.{sum_by-append, sum_by-cons}}
use Rattle.{std.proofs.lemmas.Map.Keys.{apart_from_distinct, IsDistinct-push}, byte_stream.specs.claim.Judged.AreGood, desk_model.specs.claim.GeographyModels.block_limit}
use Rattle.pl94_geo.specs.{Whole.{AreHeaderLines, AreTogether}, claim.Entries.line_read, declared.entry.{GeoRecord.GeoRecord, HeaderLineFault.HeaderLineFault}}
use Rattle.pl94_geo.specs.claim.Judging.{states_of, numbers_of, ids_of, state_record_of, other_state, repeats, conflict, kind_conflict, repeated_record, entries, judge, judged}
use Rattle.pl94_geo.{specs.declared.entry.HeaderLineFault.TheVariants.{State, RepeatedBlock, RepeatedRecord, TooManyBlocks}, proofs.LineLemmas.{all_at, from_good}}
use Rattle.pl94_geo.proofs.HoldingLemmas.{cond_none, entries_with, numbers_of-append, states_of-append, ids_of-append}

-- ---- tests over lists

none_at : (p : ℕ → Bool) (xs : List ℕ) (k d : ℕ) → list_any p xs ≡ false → k < length xs → p (get_or xs k d) ≡ false
none_at p [] k d none inside = absurd (omega arith)
none_at p (x ∷ xs) zero d none inside = (or_parts (p x) (list_any p xs) none).0
none_at p (x ∷ xs) (suc k) d none inside = none_at p xs k d (or_parts (p x) (list_any p xs) none).1 (omega arith)

-- of different numbers, none before a place is the one there
pub before_differs : (xs ys : List ℕ) (y : ℕ) → IsDistinct nat_eq (xs ++ y ∷ ys) → repeats xs y ≡ false
before_differs xs ys y distinct = list_any_none (nat_eq y) xs (λ k d inside.
    nat_eq_equiv.symm y (get_or xs k d)
    ∙ rw (get_or_append_left xs (y ∷ ys) d k inside, get_or_at xs y ys d (length xs) refl) at
    (apart_from_distinct nat_eq (xs ++ y ∷ ys) k (length xs) d distinct inside (omega (arith, length-append xs (y ∷ ys)))))

-- ---- the state record

count-cons : (e : GeoRecord) (es : List GeoRecord) → count_by (λ x. is_none x.block) (e ∷ es) ≡ cond {A = ℕ} (is_none e.block) 1 0 + count_by (λ x. is_none x.block) es
count-cons e es = sum_by-cons (λ (x : GeoRecord). cond {A = ℕ} (is_none x.block) 1 0) e es

counted : (es : List GeoRecord) → MatchBool (is_some (state_record_of es)) (1 ≤ count_by (λ e. is_none e.block) es) (count_by (λ e. is_none e.block) es ≡ 0)
counted [] = refl
counted (e ∷ es) = rw (count-cons e es) (at_first (is_none e.block) (count_by (λ x. is_none x.block) es) (counted es))
  where
    at_first : (b : Bool) (n : ℕ) → MatchBool (is_some (state_record_of es)) (1 ≤ n) (n ≡ 0)
        → MatchBool (is_some (cond b (Some e.number) (state_record_of es))) (1 ≤ cond {A = ℕ} b 1 0 + n) (cond {A = ℕ} b 1 0 + n ≡ 0)
    at_first true n later = omega arith
    at_first false n later = let same : 0 + n ≡ n = omega arith in rw same later

none_counted : (es : List GeoRecord) → is_some (state_record_of es) ≡ false → count_by (λ e. is_none e.block) es ≡ 0
none_counted es none = MatchBool-at_false (1 ≤ count_by (λ e. is_none e.block) es) _ none (counted es)

-- ---- one more record

other_state-push : (es : List GeoRecord) (e : GeoRecord) (s : ℕ) → other_state es s ≡ false → e.state ≡ s → other_state (es ++ e ∷ []) s ≡ false
other_state-push es e s none same = search (rules, states_of-append, list_any-append, or_from, not_from_true, eq-eqb)

one_state-push : (es : List GeoRecord) (e : GeoRecord) → All (λ s. other_state es s ≡ false) (states_of es) → other_state es e.state ≡ false
    → All (λ s. other_state (es ++ e ∷ []) s ≡ false) (states_of (es ++ e ∷ []))
one_state-push es e all none =
    subst (λ (ss : List ℕ). All (λ s. other_state (es ++ e ∷ []) s ≡ false) ss) (sym (states_of-append es (e ∷ [])))
    (All-push (λ s. other_state (es ++ e ∷ []) s ≡ false) (states_of es) e.state
    (λ k d inside. other_state-push es e (get_or (states_of es) k d) (all k d inside) (sym (eqb-true _ e.state (not-false _ (none_at (λ s. not (eqb s e.state)) (states_of es) k d none inside)))))
    (other_state-push es e e.state none refl))

count-append : (before after : List GeoRecord) (e : GeoRecord)
    → count_by (λ x. is_none x.block) (before ++ e ∷ after) ≡ count_by (λ x. is_none x.block) before + (cond {A = ℕ} (is_none e.block) 1 0 + count_by (λ x. is_none x.block) after)
count-append before after e =
    sum_by-append (λ (x : GeoRecord). cond {A = ℕ} (is_none x.block) 1 0) before (e ∷ after) ∙ ap (λ (n : ℕ). count_by (λ x. is_none x.block) before + n) (count-cons e after)

together_kind : (es : List GeoRecord) (e : GeoRecord) (o : Option ℕ) → e.block ≡ o → AreTogether es → other_state es e.state ≡ false → kind_conflict es e.number o ≡ None → AreTogether (es ++ e ∷ [])
together_kind es e None is t same none =
    let first = cond_none (is_some (state_record_of es)) State (repeated_record es e.number) none in
    let second = cond_none (repeats (numbers_of es) e.number) RepeatedRecord None first.1 in
    let count = none_counted es first.0 in
    let one : cond {A = ℕ} (is_none e.block) 1 0 ≡ 1 = ap (λ (x : Option ℕ). cond {A = ℕ} (is_none x) 1 0) is in
    let ids_are : ids_of (es ++ e ∷ []) ≡ ids_of es = ids_of-append es (e ∷ []) ∙ ap (λ (x : Option ℕ). ids_of es ++ cons_option x []) is ∙ append-nil (ids_of es) in
    search (rules, second, ids_are, one_state-push, count-append, nat_eq, numbers_of-append, IsDistinct-push, nat_eq_equiv)
together_kind es e (Some id) is t same none =
    let first = cond_none (repeats (ids_of es) id) RepeatedBlock (cond (repeats (numbers_of es) e.number) (Some RepeatedRecord) (cond (leb block_limit (length (ids_of es))) (Some TooManyBlocks) None)) none in
    let second = cond_none (repeats (numbers_of es) e.number) RepeatedRecord (cond (leb block_limit (length (ids_of es))) (Some TooManyBlocks) None) first.1 in
    let third = cond_none (leb block_limit (length (ids_of es))) TooManyBlocks None second.1 in
    let full : leb block_limit (length (ids_of es)) ≡ false = third.0 in
    let room : length (ids_of es) < block_limit = grind (arith, nat_tests) in
    let one : cond {A = ℕ} (is_none e.block) 1 0 ≡ 0 = ap (λ (x : Option ℕ). cond {A = ℕ} (is_none x) 1 0) is in
    let ids_are : ids_of (es ++ e ∷ []) ≡ ids_of es ++ id ∷ [] = ids_of-append es (e ∷ []) ∙ ap (λ (x : Option ℕ). ids_of es ++ cons_option x []) is in
    record {
      one_state = one_state-push es e t.one_state same;
      one_state_record = omega (arith, count-append es [] e, t.one_state_record);
      different_records = subst (IsDistinct nat_eq) (sym (numbers_of-append es (e ∷ []))) (IsDistinct-push nat_eq_equiv (numbers_of es) e.number t.different_records second.0);
      different_blocks = subst (IsDistinct nat_eq) (sym ids_are) (IsDistinct-push nat_eq_equiv (ids_of es) id t.different_blocks first.0);
      few = omega (arith, ap length ids_are, length-append (ids_of es) (id ∷ []));
    }

together_more : (es : List GeoRecord) (o : Option GeoRecord) → AreTogether es → judged es (Ok o) ≡ None → AreTogether (es ++ cons_option o [])
together_more es None t none = subst AreTogether (sym (append-nil es)) t
together_more es (Some e) t none = search (rules, cond_none, together_kind)

-- ---- a record among others

same_before : (before after : List GeoRecord) (e : GeoRecord) → All (λ s. other_state (before ++ e ∷ after) s ≡ false) (states_of (before ++ e ∷ after)) → other_state before e.state ≡ false
same_before before after e all =
    let here : other_state (before ++ e ∷ after) e.state ≡ false =
    all_at (λ s. other_state (before ++ e ∷ after) s ≡ false) _ (states_of before) (states_of after) e.state (states_of-append before (e ∷ after)) all in
    (or_parts (other_state before e.state) _ (sym (list_any-append (λ s. not (eqb s e.state)) (states_of before) (e.state ∷ states_of after))
    ∙ ap (list_any (λ s. not (eqb s e.state))) (sym (states_of-append before (e ∷ after))) ∙ here)).0

no_state_before : (es : List GeoRecord) → count_by (λ x. is_none x.block) es ≡ 0 → is_some (state_record_of es) ≡ false
no_state_before es none =
    false_from_ne_true _ (λ is. let some = MatchBool-at_true (1 ≤ count_by (λ e. is_none e.block) es) (count_by (λ e. is_none e.block) es ≡ 0) is (counted es) in omega arith)

kind_before : (before after : List GeoRecord) (e : GeoRecord) (o : Option ℕ) → e.block ≡ o → AreTogether (before ++ e ∷ after) → kind_conflict before e.number o ≡ None
kind_before before after e None is t = search (rules, before_differs, nat_eq, numbers_of-append, is_none, count_by, count-append, no_state_before)
kind_before before after e (Some id) is t = search (rules, before_differs, nat_eq, numbers_of-append, ids_of-append, length-append, nat_tests)

together_before : (before after : List GeoRecord) (e : GeoRecord) → AreTogether (before ++ e ∷ after) → conflict before e ≡ None
together_before before after e t =
    ap (λ (b : Bool). cond b (Some State) (kind_conflict before e.number e.block)) (same_before before after e t.one_state) ∙ kind_before before after e e.block refl t

-- ---- lines

line_more : (ls : List (List ℕ)) (line : List ℕ) (r : Result (Option GeoRecord) HeaderLineFault) → line_read line ≡ r → AreHeaderLines ls → judged (entries ls) r ≡ None → AreHeaderLines (ls ++ line ∷ [])
line_more ls line (Err f) is whole none = absurd (cc)
line_more ls line (Ok o) is whole none = record {
  shaped = All-push (λ l. is_ok (line_read l) ≡ true) ls line whole.shaped (ap is_ok is);
  together = subst AreTogether (sym (entries_with ls line (Ok o) is)) (together_more (entries ls) o whole.together none);
}

whole_none : AreHeaderLines []
unfolding IsDistinct
whole_none = search rules

pub whole_from_good : (ls : List (List ℕ)) → AreGood judge ls → AreHeaderLines ls
whole_from_good ls good = from_good judge AreHeaderLines whole_none (λ done line whole none. line_more done line (line_read line) refl whole none) ls good

line_before : (ls before after : List (List ℕ)) (line : List ℕ) (r : Result (Option GeoRecord) HeaderLineFault) → line_read line ≡ r → AreHeaderLines ls → ls ≡ before ++ line ∷ after → judged (entries before) r ≡ None
line_before ls before after line (Ok None) is whole cut = refl
line_before ls before after line (Ok (Some e)) is whole cut = search (rules, filter_map-append, together_before)
line_before ls before after line (Err f) is whole cut =
    absurd (false≢true (sym (ap is_ok is) ∙ all_at (λ l. is_ok (line_read l) ≡ true) ls before after line cut whole.shaped))

pub good_from_whole : (ls : List (List ℕ)) → AreHeaderLines ls → AreGood judge ls
good_from_whole ls whole = record { each = λ before line after cut. line_before ls before after line (line_read line) refl whole cut }
