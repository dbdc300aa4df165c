-- No block of a revision that a command makes is in a district above its plan's last.
use Rattle.{std.{specs.{List.{slice_split, zip}, Prelude.{◌==◌, ◌&&◌, All, nat_le, unwrap_or}, Str.Lines.lines}, proofs.lemmas.Bool.leb-true}, desk_model.specs.claim.Desk.Plan}
use Rattle.std.proofs.Common.{rules, ◌≡◌, ◌≤◌, ◌+◌, ◌-◌, ℕ, Bool, true, false, cond, List, [], ◌∷◌, ◌++◌, length, Option, Some, None, Result, Ok, Err, refl, subst, arith}
use Rattle.{std.proofs.lemmas.List.Elements.{All-nil, All-cons, All-head, All-tail, All-push, All-map, All-get_or}, desk_model.specs.claim.{Geography.GeographyModel, Step.patched}}
use Rattle.desk_model.specs.claim.{Baf.{Values, Fault, at_line, body_read, fields_of, in_range, line_read, placed, rows_read, value_at, with_header, whole}, Subject.revision_at}
use Rattle.{desk_model.specs.declared.{block.BlockRow.BlockRow, reply.BodyFault.BodyFault}, desk_store_pages.specs.claim.Desks.AreWithin, plan_revisions.proofs.Looking.among}
use Rattle.plan_revisions.proofs.Limits.{some_is, none_is as no_some}

-- each value that is listed is n at most
abbrev pub AreSmall : ℕ → Values → Type 0
AreSmall n listed = All (λ (e : ℕ × ℕ). e.1 ≤ n) listed

clash : {A E : Type 0} (e : E) (a : A) → ◌≡◌ {A = Result A E} (Err e) (Ok a) → ⊥
clash e a same = cc

ok_is : {A E : Type 0} (a b : A) → ◌≡◌ {A = Result A E} (Ok a) (Ok b) → a ≡ b
ok_is a b same = cc

-- ---- a body
range_small : (n v d : ℕ) (some few : Bool) → nat_le v n ≡ few → cond (some && few) (Some v) None ≡ Some d → d ≤ n
range_small n v d some few told is = search (arith, no_some, some_is, leb-true)

in_range_small : (n : ℕ) (value : Option ℕ) (d : ℕ) → in_range n value ≡ Some d → d ≤ n
in_range_small n value d is = search (arith, some_is, range_small)

module _ (n : ℕ) (so_far : Values) (next : Values) (small : AreSmall n so_far) where
  placed_small : (id : ℕ) (value : Option ℕ) → ((d : ℕ) → value ≡ Some d → d ≤ n) → placed so_far id value ≡ Ok next → AreSmall n next
  placed_small id None few is = absurd (clash _ next is)
  placed_small id (Some d) few is = subst (AreSmall n) (ok_is (so_far ++ (id, d) ∷ []) next is) (All-push (λ (e : ℕ × ℕ). e.1 ≤ n) so_far (id, d) small (few d refl))

  tested_small : (id : ℕ) (value : Option ℕ) (unknown seen : Bool) (one two : BodyFault) → ((d : ℕ) → value ≡ Some d → d ≤ n)
      → cond unknown (Err one) (cond seen (Err two) (placed so_far id value)) ≡ Ok next → AreSmall n next
  tested_small id value unknown seen one two few is = search (arith, clash, placed_small)

  line_small : (g : GeographyModel) (e : Option (ℕ × Option ℕ)) → line_read g n so_far e ≡ Ok next → AreSmall n next
  line_small g e is = search (arith, clash, tested_small, in_range_small)

module _ (g : GeographyModel) (n : ℕ) (listed : Values) where
  rows_small : (at : ℕ) (so_far : Values) (ls : List (List ℕ)) → AreSmall n so_far → rows_read g n at so_far ls ≡ Ok listed → AreSmall n listed
  rows_small at so_far [] small is = subst (AreSmall n) (ok_is so_far listed is) small
  rows_small at so_far (line ∷ more) small is = by_length (length line == 0) (rows_small (at + 1) so_far more small) (λ next now. rows_small (at + 1) next more now) is
    where
      by_line : (r : Result Values BodyFault) → line_read g n so_far (fields_of (slice_split (λ b. b == 124) line)) ≡ r → ((next : Values) → AreSmall n next → rows_read g n (at + 1) next more ≡ Ok listed → AreSmall n listed)
          → at_line at r (λ next. rows_read g n (at + 1) next more) ≡ Ok listed → AreSmall n listed
      by_line (Ok next) told go is = go next (line_small n so_far next small g (fields_of (slice_split (λ b. b == 124) line)) told) is
      by_line (Err e) told go is = absurd (clash _ listed is)

      by_length : (b : Bool) → (rows_read g n (at + 1) so_far more ≡ Ok listed → AreSmall n listed)
          → ((next : Values) → AreSmall n next → rows_read g n (at + 1) next more ≡ Ok listed → AreSmall n listed)
          → cond b (rows_read g n (at + 1) so_far more) (at_line at (line_read g n so_far (fields_of (slice_split (λ b. b == 124) line))) (λ next. rows_read g n (at + 1) next more)) ≡ Ok listed → AreSmall n listed
      by_length b rest go is = search (arith, rest, by_line)

  headed_small : (first : Bool) (more : List (List ℕ)) (e : Fault) → cond first (rows_read g n 2 [] more) (Err e) ≡ Ok listed → AreSmall n listed
  headed_small first more e is = search (arith, rows_small, clash)

  lines_small : (ls : List (List ℕ)) → with_header g n ls ≡ Ok listed → AreSmall n listed
  lines_small ls is = search (arith, clash, headed_small)

pub body_small : (g : GeographyModel) (n : ℕ) (text : List ℕ) (listed : Values) → body_read g n text ≡ Ok listed → AreSmall n listed
body_small g n text listed is = lines_small g n listed (lines text) is

-- ---- the revision that it gives
value_small : (n : ℕ) (listed : Values) (id d : ℕ) → AreSmall n listed → value_at listed id ≡ Some d → d ≤ n
value_small n [] id d small is = absurd (no_some d is)
value_small n (e ∷ more) id d small is = by_id (e.0 == id) (value_small n more id d (All-tail (λ (x : ℕ × ℕ). x.1 ≤ n) e more small)) is
  where
    by_id : (b : Bool) → (value_at more id ≡ Some d → d ≤ n) → cond b (Some e.1) (value_at more id) ≡ Some d → d ≤ n
    by_id true rest is = subst (λ k. k ≤ n) (some_is e.1 d is) (All-head (λ (x : ℕ × ℕ). x.1 ≤ n) e more small)
    by_id false rest is = rest is

or_small : (n : ℕ) (value : Option ℕ) (x : ℕ) → ((d : ℕ) → value ≡ Some d → d ≤ n) → x ≤ n → unwrap_or value x ≤ n
or_small n value x few is = search (arith, few)

pub whole_within : (g : GeographyModel) (n : ℕ) (listed : Values) → AreSmall n listed → AreWithin n (whole g listed)
whole_within g n listed small = search (rules, All-map, or_small, value_small)

beside_within : (n : ℕ) (blocks : List BlockRow) (last : List ℕ) → AreWithin n last → All (λ (e : BlockRow × ℕ). e.1 ≤ n) (zip blocks last)
beside_within n (b ∷ blocks) (d ∷ last) within =
    All-cons (λ (e : BlockRow × ℕ). e.1 ≤ n) (b, d) (zip blocks last) (All-head (λ (k : ℕ). k ≤ n) d last within)
    (beside_within n blocks last (All-tail (λ (k : ℕ). k ≤ n) d last within))
beside_within n _ _ within = All-nil (λ (e : BlockRow × ℕ). e.1 ≤ n)

pub patched_within : (g : GeographyModel) (n : ℕ) (listed : Values) (last : Option (List ℕ)) → AreSmall n listed
    → ((districts : List ℕ) → last ≡ Some districts → AreWithin n districts) → AreWithin n (patched g listed last)
patched_within g n listed None small kept = whole_within g n listed small
patched_within g n listed (Some last) small kept = search (All-map, or_small, value_small, beside_within)

-- ---- a revision of a plan
pub revision_within : (p : Plan) (k : ℕ) (districts : List ℕ) → revision_at p k ≡ Some districts → All (AreWithin p.n) p.revisions → AreWithin p.n districts
revision_within p k districts is all =
    let at = among p k districts is in
    subst (AreWithin p.n) at.is (All-get_or (AreWithin p.n) p.revisions (k - 1) [] (omega arith) all)
