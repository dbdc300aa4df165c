-- The plans that are shown are those whose rows a scan took, each with what its row says.
use Rattle.{std.specs.{FinMap.{empty, entries, find, get, get-empty}, Prelude.Option}, btree_scan.specs.{Prefixes.under, declared.rows.Row.Row}}
use Rattle.{std.proofs.Common.{◌≡◌, ◌<◌, ◌^◌, ℕ, List, [], ◌∷◌, ◌++◌, length, Some, None, refl, sym, ap, subst, subst₂, ◌∙◌}, desk_model.specs.claim.Desk.{Desk, Plan, name_cmp}}
use Rattle.{desk_model.specs.declared.ranges.CountyRange.CountyRange, desk_store_opening.specs.Opening.{ArePlansShown, HasNothing, IsListed, IsNotGone, IsShown, IsShownAt}}
use Rattle.{desk_store_opening.specs.Reading.AreRevisionsShown, desk_store_pages.specs.Desks.new_desk, desk_store_rows.specs.{Changes.plan_row_of, claim.Order.key_cmp}}
use Rattle.desk_store_rows.specs.{claim.{Keys.{key_of, named, plans_prefix, retired}, Rows.{KeyMap, Lacks}, Values.plan_bytes}, declared.value.StoredPlan.StoredPlan}
use Rattle.{page_btree.specs.node.claim.Entries.Entry, desk_store_opening.proofs.Parts.{Plans, at_more, found_among, next_plan}, desk_store_rows.proofs.OneGeography.no_value}

-- a row's numbers are those of the plan
pub row_is : (row : StoredPlan) (p : Plan) → p.kind ≡ row.kind → p.n ≡ row.districts → length p.revisions ≡ row.revisions → row ≡ plan_row_of row.number p
row_is row p kind districts revisions = λ i. record { number = row.number; kind = sym kind i; districts = sym districts i; revisions = sym revisions i }

-- the plan of a row that was taken, or none
pub record IsTakenPlan (m : KeyMap) (ranges : List CountyRange) (row : List ℕ) (o : Option Plan) : Type 0 where
  pub plan : Plan
  pub number : ℕ
  pub fits : number < 2 ^ 64
  pub is : o ≡ Some plan
  pub bytes : row ≡ plan_bytes (plan_row_of number plan)
  pub kept : Lacks m (retired number)
  pub revisions : AreRevisionsShown number ranges m plan

abbrev pub IsShownAs : KeyMap → List CountyRange → Option (List ℕ) → Option Plan → Type 0
IsShownAs m ranges None o = o ≡ None
IsShownAs m ranges (Some row) o = IsTakenPlan m ranges row o

abbrev pub AreShown : KeyMap → List CountyRange → List Entry → Plans → Type 0
AreShown m ranges taken plans = (name : List ℕ) → IsShownAs m ranges (find key_cmp (key_of (named name)) taken) (get plans name)

pub none_shown : (m : KeyMap) (ranges : List CountyRange) → AreShown m ranges [] empty
none_shown m ranges name = get-empty name_cmp name

module _ (m : KeyMap) (ranges : List CountyRange) (rows : List Entry) (row : Row) (plans all : Plans) (after : List Entry) (whole : under plans_prefix (entries m) ≡ rows ++ (row.key, row.value) ∷ after) (shown : AreShown m ranges rows plans) (gone : IsNotGone row m) (listed : IsListed plans row ranges m all) where
  pub more_shown : AreShown m ranges (rows ++ (row.key, row.value) ∷ []) all
  more_shown =
      let added = listed.added in let fits = added.fits in
      let fresh : find key_cmp (key_of (named added.name)) rows ≡ None = subst (λ (k : List ℕ). find key_cmp k rows ≡ None) added.key (next_plan m rows (row.key, row.value) after whole).new in
      let kept = gone (plan_row_of added.number added.plan) added.fits added.value in
      let taken : IsTakenPlan m ranges row.value (Some added.plan) =
      record { plan = added.plan; number = added.number; fits = fits; is = refl; bytes = added.value; kept = kept; revisions = listed.revisions } in
      subst₂ (λ (k : List ℕ) (n : Plans). AreShown m ranges (rows ++ (k, row.value) ∷ []) n) (sym added.key) (sym added.is)
      (at_more (λ _. IsShownAs m ranges) rows plans added.name added.plan row.value fresh taken shown)

-- where these are all rows of plans
shown_at : (m : KeyMap) (ranges : List CountyRange) (name : List ℕ) (row : Option (List ℕ)) (o : Option Plan) → get m (key_of (named name)) ≡ row → IsShownAs m ranges row o → IsShownAt m ranges name o
shown_at m ranges name None o there is = subst (IsShownAt m ranges name) (sym is) there
shown_at m ranges name (Some row) o there is = subst (IsShownAt m ranges name) (sym is.is) (record { number = is.number; fits = is.fits; row = there ∙ ap Some is.bytes; kept = is.kept; revisions = is.revisions })

pub all_shown : (m : KeyMap) (ranges : List CountyRange) (taken : List Entry) (plans : Plans) → under plans_prefix (entries m) ≡ taken → AreShown m ranges taken plans → ArePlansShown m ranges plans
all_shown m ranges taken plans rows shown name = shown_at m ranges name (find key_cmp (key_of (named name)) taken) (get plans name) (sym (found_among m taken name rows)) (shown name)

-- where nothing stands, nothing is shown
pub nothing_shown : (m : KeyMap) (d : Desk) → d ≡ new_desk → HasNothing m → IsShown m d
nothing_shown m d is none = subst (IsShown m) (sym is) (record { the_geography = none.the_geography; plans = λ name. subst (IsShownAt m [] name) (sym (get-empty name_cmp name)) (none.plans name); apart = λ name other number is also. absurd (no_value (plan_bytes is.plan) (sym is.row ∙ none.plans name)) })
