-- Lemmas on the definitions of Changes.
use Rattle.std.{specs.{Cmp.Lexicographic.nat_list_cmp_total, FinMap.{FinMap, get, insert, remove, get-insert, get-remove}, Ordering.eq_by_cmp}, proofs.Math.ListN.get_or-append}
use Rattle.std.proofs.Common.{rules, ◌≡◌, ◌⊎◌, ◌<◌, ◌+◌, ◌^◌, ℕ, cond, List, [], ◌∷◌, ◌++◌, length, drop, get_or, Option, Some, None, sym, ap, subst, ◌∙◌, inl, inr, arith, length-append}
use Rattle.{std.proofs.{Math.Seq.get_or-append_seam, lemmas.Bool.{cases_Bool, cases_lt}}, desk_model.specs.claim.{Desk.{Plan, name_cmp}, Geography.GeographyModel, Name.IsPlanName}}
use Rattle.{desk_model.specs.{claim.Ranges.cut, declared.kind.Kind.Kind}, desk_store_rows.specs.Changes.{IsRevised, RevisionsStay, desk_with, plan_row_of, with_revision}}
use Rattle.desk_store_rows.specs.{Rows.SameTag, claim.{DeskRows.{HasPlan, IsPlanAt, IsDesk, most_revisions}, Keys.{key_of, named, retired}, Order.key_cmp, Rows.{KeyMap, row_in}}}
use Rattle.desk_store_rows.specs.claim.{RevisionRows.HasRevision, Values.plan_bytes}
use Rattle.desk_store_rows.proofs.Frames.{same_key, is_equal, differs, itself, put_is_there, put_keeps, removed_is_gone, remove_keeps, put_keeps_tag, remove_keeps_tag, tag_follows, geography_stays, revision_stays}

-- ---- names
pub cases_key : (x y : List ℕ) → (x ≡ y) ⊎ (x ≡ y → ⊥)
cases_key x y = search (rules, cases_Bool (eq_by_cmp key_cmp x y), same_key, is_equal, itself x)

plan_there : (plans : FinMap name_cmp Plan) (name : List ℕ) (p : Plan) → get (insert plans name p) name ≡ Some p
plan_there plans name p = get-insert nat_list_cmp_total plans name p name ∙ ap (λ b. cond b (Some p) (get plans name)) (itself name)

pub plan_kept : (plans : FinMap name_cmp Plan) (name : List ℕ) (p : Plan) (other : List ℕ) → (other ≡ name → ⊥) → get (insert plans name p) other ≡ get plans other
plan_kept plans name p other apart = get-insert nat_list_cmp_total plans name p other ∙ ap (λ b. cond b (Some p) (get plans other)) (differs other name apart)

pub plan_gone : (plans : FinMap name_cmp Plan) (name : List ℕ) → get (remove plans name) name ≡ None
plan_gone plans name = get-remove nat_list_cmp_total plans name name ∙ ap (λ b. cond b None (get plans name)) (itself name)

pub plan_left : (plans : FinMap name_cmp Plan) (name other : List ℕ) → (other ≡ name → ⊥) → get (remove plans name) other ≡ get plans other
plan_left plans name other apart = get-remove nat_list_cmp_total plans name other ∙ ap (λ b. cond b None (get plans other)) (differs other name apart)

pub other_row : (name other : List ℕ) → (other ≡ name → ⊥) → key_of (named other) ≡ key_of (named name) → ⊥
other_row name other apart same = apart (ap (drop 1) same)

-- ---- a plan that doesn't change
pub plan_at_moves : (m n : KeyMap) (g : GeographyModel) (name : List ℕ) (p : Option Plan) → row_in n (named name) ≡ row_in m (named name) → ((number : ℕ) (q : Plan) → p ≡ Some q → HasPlan m g name number q → RevisionsStay m n number (length q.revisions)) → IsPlanAt m (Some g) name p → IsPlanAt n (Some g) name p
plan_at_moves m n g name p same stay is = search (arith, stay)

-- ---- one plan changes, and the others stay
plans_changed : (m n : KeyMap) (g : GeographyModel) (plans after : FinMap name_cmp Plan) (name : List ℕ) → SameTag 83 m n → SameTag 103 m n → IsPlanAt n (Some g) name (get after name)
    → ((other : List ℕ) → (other ≡ name → ⊥) → (get after other ≡ get plans other) × (row_in n (named other) ≡ row_in m (named other)))
    → ((other : List ℕ) (plan : ℕ) (q : Plan) → get plans other ≡ Some q → HasPlan m g other plan q → RevisionsStay m n plan (length q.revisions)) → IsDesk m (desk_with g plans) → IsDesk n (desk_with g after)
plans_changed m n g plans after name seals rows here others stay is = record {
  geography = geography_stays m n (Some g) seals rows is.geography;
  plans = λ other. elim (cases_key other name) [
    | inl same ↦ subst (λ o. IsPlanAt n (Some g) o (get after o)) (sym same) here
    | inr apart ↦ subst (λ (p : Option Plan). IsPlanAt n (Some g) other p) (sym (others other apart).0) (plan_at_moves m n g other (get plans other) (others other apart).1 (stay other) (is.plans other))
  ];
}

-- ---- a plan is created
pub plan_created : (m : KeyMap) (g : GeographyModel) (plans : FinMap name_cmp Plan) (name : List ℕ) (kind : Kind) (districts number : ℕ) → IsDesk m (desk_with g plans) → IsPlanName name → number < 2 ^ 64 → districts < 2 ^ 16
    → IsDesk (insert m (key_of (named name)) (plan_bytes (plan_row_of number (record { kind = kind; n = districts; revisions = [] })))) (desk_with g (insert plans name (record { kind = kind; n = districts; revisions = [] })))
plan_created m g plans name kind districts number is is_name fits small =
    let made : Plan = record { kind = kind; n = districts; revisions = [] } in
    let value = plan_bytes (plan_row_of number made) in
    let n = insert m (key_of (named name)) value in
    let same = λ (tag : ℕ) (apart : tag ≡ 80 → ⊥). put_keeps_tag m tag 80 name value apart in
    let new : HasPlan n g name number made = search (arith, put_is_there) in
    plans_changed m n g plans (insert plans name made) name (same 83 (λ e. absurd (omega arith))) (same 103 (λ e. absurd (omega arith))) (subst (λ (p : Option Plan). IsPlanAt n (Some g) name p) (sym (plan_there plans name made)) (number, new))
    (λ other apart. (plan_kept plans name made other apart, put_keeps m (key_of (named name)) value (key_of (named other)) (other_row name other apart)))
    (λ other plan q found has revision counties some few there. revision_stays m n plan revision counties (same 82 (λ e. absurd (omega arith))) (same 107 (λ e. absurd (omega arith))) there) is

-- ---- a plan is taken away
pub plan_retired : (m : KeyMap) (g : GeographyModel) (plans : FinMap name_cmp Plan) (name : List ℕ) (number : ℕ) → IsDesk m (desk_with g plans)
    → IsDesk (insert (remove m (key_of (named name))) (key_of (retired number)) []) (desk_with g (remove plans name))
plan_retired m g plans name number is =
    let less = remove m (key_of (named name)) in
    let n = insert less (key_of (retired number)) [] in
    let same = λ (tag : ℕ) (a : tag ≡ 80 → ⊥) (b : tag ≡ 68 → ⊥). tag_follows tag m less n (remove_keeps_tag m tag 80 name a) (put_keeps_tag less tag 68 (drop 1 (key_of (retired number))) [] b) in
    let names : SameTag 80 less n = put_keeps_tag less 80 68 (drop 1 (key_of (retired number))) [] (λ e. absurd (omega arith)) in
    plans_changed m n g plans (remove plans name) name (same 83 (λ e. absurd (omega arith)) (λ e. absurd (omega arith))) (same 103 (λ e. absurd (omega arith)) (λ e. absurd (omega arith))) (subst (λ (p : Option Plan). IsPlanAt n (Some g) name p) (sym (plan_gone plans name)) (names name ∙ removed_is_gone m (key_of (named name))))
    (λ other apart. (plan_left plans name other apart, names other ∙ remove_keeps m (key_of (named name)) (key_of (named other)) (other_row name other apart)))
    (λ other plan q found has revision counties some few there. revision_stays m n plan revision counties (same 82 (λ e. absurd (omega arith)) (λ e. absurd (omega arith))) (same 107 (λ e. absurd (omega arith)) (λ e. absurd (omega arith))) there) is

-- ---- a plan gets one revision more
pub plan_revised : (m n : KeyMap) (g : GeographyModel) (plans : FinMap name_cmp Plan) (name : List ℕ) (number : ℕ) (p : Plan) (districts : List ℕ) → IsDesk m (desk_with g plans) → get plans name ≡ Some p → HasPlan m g name number p → length districts ≡ length g.blocks → length p.revisions < most_revisions → IsRevised m n g plans name number p districts
    → IsDesk n (desk_with g (insert plans name (with_revision p districts)))
plan_revised m n g plans name number p districts is there has long room revised =
    let made = with_revision p districts in
    let count = length-append p.revisions (districts ∷ []) in
    let new : HasPlan n g name number made = record {
      is_name = has.is_name;
      number_fits = has.number_fits;
      districts_fit = has.districts_fit;
      few = omega arith;
      row = revised.row;
      whole = λ k within. elim (cases_lt k (length p.revisions)) [
        | inl less ↦ ap length (get_or-append p.revisions (districts ∷ []) [] k less) ∙ has.whole k less
        | inr more ↦ (let last : length p.revisions ≡ k = omega arith in subst (λ j. length (get_or (p.revisions ++ districts ∷ []) j []) ≡ length g.blocks) last (ap length (get_or-append_seam p.revisions districts [] []) ∙ long))
      ];
      revisions = λ k within. elim (cases_lt k (length p.revisions)) [
        | inl less ↦ subst (λ (l : List ℕ). HasRevision n number (k + 1) (cut g l)) (sym (get_or-append p.revisions (districts ∷ []) [] k less))
            ((revised.earlier name number p there has) (k + 1) (cut g (get_or p.revisions k [])) (omega arith) (omega arith) (has.revisions k less))
        | inr more ↦ (let last : length p.revisions ≡ k = omega arith in
            subst (λ j. HasRevision n number (j + 1) (cut g (get_or (p.revisions ++ districts ∷ []) j []))) last
            (subst (λ (l : List ℕ). HasRevision n number (length p.revisions + 1) (cut g l)) (sym (get_or-append_seam p.revisions districts [] [])) revised.added))
      ];
    } in
    plans_changed m n g plans (insert plans name made) name revised.seals revised.rows (subst (λ (q : Option Plan). IsPlanAt n (Some g) name q) (sym (plan_there plans name made)) (number, new))
    (λ other apart. (plan_kept plans name made other apart, revised.others other apart)) revised.earlier is
