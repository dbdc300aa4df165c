-- A row that is taken says which plan it is of.
use Rattle.{std.{specs.{FinMap.{FinMap, get as row_at}, Prelude.Option}, proofs.lemmas.Bool.{and_parts, Decides.nat_tests}}, btree_scan.specs.declared.rows.Row.Row}
use Rattle.std.proofs.Common.{arith, ◌≡◌, ◌<◌, ℕ, Bool, true, false, cond, List, ◌∷◌, length, Some, None, MatchOption, refl, sym, ap, subst, ◌∙◌}
use Rattle.{desk_model.specs.claim.{Desk.{Plan, name_cmp}, Geography.GeographyModel, Name.{IsPlanName, is_plan_name, plan_name_of}}, desk_store_opening.specs.Reading.IsPlanRow}
use Rattle.{desk_store_opening.specs.Opening.{IsKeptPlan, IsNewPlan}, desk_store_rows.specs.{Changes.plan_row_of, RowKeys.IsKey, claim.{DeskRows.{HasPlan, IsPlanAt}, Rows.KeyMap}}}
use Rattle.desk_store_rows.{specs.{claim.{Keys.{key_of, named}, Values.plan_bytes}, declared.value.StoredPlan.StoredPlan}, proofs.OneGeography.value_is}
use Rattle.plan_revisions.specs.PlanLaws.{IsTold, PlansAreTold, RowFits}

-- ---- the name in a key
pub name_told : (key name : List ℕ) (read : Option (List ℕ)) → read ≡ plan_name_of name → IsKey (named name) key → MatchOption read ((other : List ℕ) → IsPlanName other → key ≡ key_of (named other) → ⊥) (λ n. key ≡ key_of (named n))
name_told key name read is told = subst (λ (o : Option (List ℕ)). MatchOption o ((other : List ℕ) → IsPlanName other → key ≡ key_of (named other) → ⊥) (λ n. key ≡ key_of (named n))) (sym is) (by (is_plan_name name) refl)
  where
    by : (b : Bool) → is_plan_name name ≡ b → MatchOption (cond b (Some name) None) ((other : List ℕ) → IsPlanName other → key ≡ key_of (named other) → ⊥) (λ n. key ≡ key_of (named n))
    by true named_so = told.is
    by false not_named = λ other is_name same.
        let keys : ◌≡◌ {A = List ℕ} (80 ∷ name) (80 ∷ other) = sym told.is ∙ same in
        let names : name ≡ other = cc in
        let clash : false ≡ true = sym not_named ∙ ap is_plan_name names ∙ is_name in
        cc

-- a name is short
pub name_short : (name : List ℕ) → IsPlanName name → length name < 72
name_short name is = search (arith, nat_tests, and_parts)

-- ---- the plan of a row
module _ (g : GeographyModel) (plans : FinMap name_cmp Plan) (row : Row) (m : KeyMap) (plan : List ℕ × Plan) (is : IsNewPlan g plans row m plan) where
  has_plan : (number : ℕ) × HasPlan m g plan.0 number plan.1
  has_plan = subst (λ (p : Option Plan). IsPlanAt m (Some g) plan.0 p) is.there (is.desk.plans plan.0)

  pub same_name : (name : List ℕ) → row.key ≡ key_of (named name) → name ≡ plan.0
  same_name name key = let both : 80 ∷ name ≡ 80 ∷ plan.0 = sym key ∙ is.key in cc

  value_there : ◌≡◌ {A = Option (List ℕ)} (Some (plan_bytes (plan_row_of has_plan.0 plan.1))) (Some row.value)
  value_there = sym has_plan.1.row ∙ ap (row_at m) (sym is.key) ∙ is.value

  pub value_told : (p : StoredPlan) × (plan_bytes p ≡ row.value)
  value_told = (plan_row_of has_plan.0 plan.1, value_is (plan_bytes (plan_row_of has_plan.0 plan.1)) row.value value_there)

  pub is_plan_row : PlansAreTold → (name : List ℕ) (read : StoredPlan) → RowFits read → row.key ≡ key_of (named name) → plan_bytes read ≡ row.value → IsPlanRow g name read m plan.1
  is_plan_row told name read fits key bytes =
      let found : ◌≡◌ {A = Option (List ℕ)} (Some (plan_bytes read)) (row_at m (key_of (named plan.0))) = ap Some bytes ∙ sym is.value ∙ ap (row_at m) is.key in
      let t = subst (λ (p : Option Plan). IsTold m g plan.0 p (Some read)) is.there (told m g is.all plan.0 (Some read) is.desk found fits) in
      search same_name

  -- it wasn't taken away
  pub is_kept_plan : IsKeptPlan row m
  is_kept_plan =
      let p = plan_row_of has_plan.0 plan.1 in
      let kept = is.tidy.owned.gone plan.0 has_plan.0 (record { plan = p; row = has_plan.1.row; is = refl; fits = has_plan.1.number_fits }) in
      record { plan = p; fits = has_plan.1.number_fits; value = value_is row.value (plan_bytes p) (sym value_there); kept = kept }
