-- A plan is made of the revisions that were seen: rows that have its chunks say which districts each of them has.
use Rattle.std.proofs.Common.{◌≡◌, ◌<◌, ◌≤◌, ◌+◌, ◌++◌, ℕ, zero, suc, List, [], ◌∷◌, length, get_or, All, replicate, inr, refl, sym, subst, ◌∙◌, arith, below_more, length-append}
use Rattle.{std.proofs.lemmas.List.{get_or_append_left, get_or_at, length-replicate, Elements.{All-push, All-replicate}}, desk_model.specs.Ranges.{ListsAreCut, ranges_of}}
use Rattle.{desk_model.specs.{claim.{Desk.Plan, Geography.GeographyModel}, declared.ranges.CountyRange.CountyRange}, desk_store_catalogue.specs.desk_store_lists.Laid.with_at}
use Rattle.desk_store_opening.specs.{Checking.{AreChunksSeen, AreRevisionsSeen, IsSizedRow}, Reading.{AreCountiesOf, AreRevisionsShown, IsRevisionShown, no_cut}}
use Rattle.{desk_store_pages.specs.claim.Desks.{AreWithin, IsSized}, desk_store_rows.specs.{Changes.plan_row_of, claim.Rows.KeyMap, declared.value.StoredPlan.StoredPlan}}
use Rattle.desk_store_opening.proofs.{Laying.{LaidTo, county_fits, laid_one_more, none_laid, with_long}, Shown.row_is, Within.with_at_within}

module _ (lists : ListsAreCut) (g : GeographyModel) (ranges : List CountyRange) (same : ranges ≡ ranges_of g) (m : KeyMap) where
  abbrev blocks : ℕ
  blocks = length g.blocks

  abbrev nothing : List ℕ
  nothing = replicate blocks 0

  are : AreCountiesOf ranges blocks
  are = record { the_geography = g; are = same; blocks = refl }

  -- ---- the districts of the first counties
  record IsLaidSo (n : ℕ) (numbers : List ℕ) (k : ℕ) : Type 0 where
    pub districts : List ℕ
    pub long : length districts ≡ blocks
    pub within : AreWithin n districts
    pub laid : LaidTo ranges numbers [] nothing m k districts

  laid_so : (n : ℕ) (numbers : List ℕ) → length numbers ≡ length ranges → AreChunksSeen n ranges numbers m → (k : ℕ) → k ≤ length ranges → IsLaidSo n numbers k
  laid_so n numbers long seen zero less = record {
    districts = nothing;
    long = length-replicate blocks 0;
    within = All-replicate (λ d. d ≤ n) blocks 0 (omega arith);
    laid = none_laid ranges numbers [] nothing m;
  }
  laid_so n numbers long seen (suc k) less =
      let before = laid_so n numbers long seen k (omega arith) in
      let one = seen k (omega arith) (omega arith) in
      let range = get_or ranges k no_cut in
      let after = with_at range.first one.chunk before.districts in
      let all = county_fits lists ranges blocks are k no_cut (omega arith) before.districts before.long in
      let next : k + 1 ≡ suc k = omega arith in
      record {
        districts = after;
        long = with_long range.first one.chunk before.districts (omega arith) ∙ before.long;
        within = with_at_within n range.first one.chunk before.districts one.within before.within;
        laid = subst (λ (i : ℕ). LaidTo ranges numbers [] nothing m i after) next
            (laid_one_more lists ranges blocks are numbers [] nothing m k (omega arith) before.districts after before.long before.laid (get_or numbers k 0) refl
            (inr (record { chunk = one.chunk; pieces = one.pieces; is = refl })));
      }

  -- ---- the revisions of a plan
  record AreRevisionsMade (row : StoredPlan) (count : ℕ) : Type 0 where
    pub revisions : List (List ℕ)
    pub long : length revisions ≡ count
    pub within : All (AreWithin row.districts) revisions
    pub shown : (k : ℕ) → k < length revisions → IsRevisionShown row.number (k + 1) ranges m (get_or revisions k [])

  revisions_made : (row : StoredPlan) (count : ℕ) → AreRevisionsSeen ranges row count m → AreRevisionsMade row count
  revisions_made row zero seen = record { revisions = []; long = refl; within = λ k d less. absurd (omega arith); shown = λ k less. absurd (omega arith) }
  revisions_made row (suc count) seen =
      let before = revisions_made row count (λ k less. seen k (omega arith)) in
      let one = seen count (omega arith) in
      let all = laid_so row.districts one.numbers one.parts.long one.chunks (length ranges) (omega arith) in
      let shown : IsRevisionShown row.number (count + 1) ranges m all.districts = record { numbers = one.numbers; parts = one.parts; chunks = λ county named inside. all.laid.read (λ other last there. absurd (omega arith)) county inside inside } in
      let long = length-append before.revisions (all.districts ∷ []) in
      record {
        revisions = before.revisions ++ all.districts ∷ [];
        long = omega arith;
        within = All-push (AreWithin row.districts) before.revisions all.districts before.within all.within;
        shown = λ k less. below_more (λ i. IsRevisionShown row.number (i + 1) ranges m (get_or (before.revisions ++ all.districts ∷ []) i [])) count
            (λ i lt. subst (λ (l : List ℕ). IsRevisionShown row.number (i + 1) ranges m l) (sym (get_or_append_left before.revisions (all.districts ∷ []) [] i (omega (arith, before.long, lt)))) (before.shown i (omega (arith, before.long, lt))))
            (subst (λ (l : List ℕ). IsRevisionShown row.number (count + 1) ranges m l) (sym (get_or_at before.revisions all.districts [] [] count before.long)) shown) k (omega arith);
      }

  -- ---- the plan
  pub record IsPlanMade (row : StoredPlan) : Type 0 where
    pub plan : Plan
    pub of : row ≡ plan_row_of row.number plan
    pub revisions : AreRevisionsShown row.number ranges m plan
    pub sized : IsSizedRow row → IsSized plan

  pub plan_made : (row : StoredPlan) → AreRevisionsSeen ranges row row.revisions m → IsPlanMade row
  plan_made row seen =
      let made = revisions_made row row.revisions seen in
      let plan : Plan = record { kind = row.kind; n = row.districts; revisions = made.revisions } in
      record {
        plan = plan;
        of = row_is row plan refl refl made.long;
        revisions = record { within = made.within; read = made.shown };
        sized = λ sized. record { some = sized.some; most = sized.most; within = made.within };
      }
