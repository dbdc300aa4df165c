-- A plan's row is read back from its bytes, so it tells one plan.
use Rattle.std.{specs.{FinMap.{FinMap, get}, Int.from_be_bytes, Prelude.IfSome}, proofs.Common.{sym, ap, ◌∙◌, ◌≡◌, ◌%◌, ℕ, List, drop, get_or, Option, Some, w16, arith}}
use Rattle.{std.proofs.lemmas.Nat.from_be_bytes-to_be_bytes_2, desk_model.specs.{claim.{Desk.{Plan, name_cmp}, Geography.GeographyModel}, declared.kind.Kind.Kind}}
use Rattle.desk_store_rows.specs.{Changes.{desk_with, plan_row_of}, claim.{DeskRows.{HasPlan, IsPlanAt, IsDesk}, Rows.KeyMap, Values.{plan_bytes, kind_code}}}
use Rattle.{desk_store_rows.specs.declared.value.StoredPlan.StoredPlan, plan_revisions.specs.{PlanLaws.{RowFits, IsTold}, PlanRows.IsFound}}
use Rattle.desk_store_rows.proofs.{OneDesk.{row_number, row_revisions}, OneGeography.{value_is, no_value as clash}}

same_kind : (a b : Kind) → kind_code a % 256 ≡ kind_code b % 256 → a ≡ b
same_kind a b same = search (arith)

one_row : (a b : StoredPlan) → RowFits a → RowFits b → plan_bytes a ≡ plan_bytes b → a ≡ b
one_row a b fa fb same =
    let number : a.number ≡ b.number = row_number a b fa.number_fits fb.number_fits same in
    let kind : a.kind ≡ b.kind = same_kind a.kind b.kind (ap (λ l. get_or l 8 0) same) in
    let districts : a.districts ≡ b.districts = sym (from_be_bytes-to_be_bytes_2 a.districts fa.districts_fit) ∙ ap (λ l. from_be_bytes w16 (drop 9 l)) same ∙ from_be_bytes-to_be_bytes_2 b.districts fb.districts_fit in
    let revisions : a.revisions ≡ b.revisions = row_revisions a b fa.revisions_fit fb.revisions_fit same in
    λ i. record { number = number i; kind = kind i; districts = districts i; revisions = revisions i }

row_fits : (m : KeyMap) (g : GeographyModel) (name : List ℕ) (number : ℕ) (p : Plan) → HasPlan m g name number p → RowFits (plan_row_of number p)
row_fits m g name number p has = let few = has.few in record { number_fits = has.number_fits; districts_fit = has.districts_fit; revisions_fit = omega arith }

told_at : (m : KeyMap) (g : GeographyModel) (name : List ℕ) (p : Option Plan) (found : Option StoredPlan) → IsPlanAt m (Some g) name p → IsFound m name found → IfSome found RowFits → IsTold m g name p found
told_at m g name p found is there fits = search (arith, clash, one_row, value_is, row_fits)

pub plans_told : (m : KeyMap) (g : GeographyModel) (plans : FinMap name_cmp Plan) (name : List ℕ) (found : Option StoredPlan) → IsDesk m (desk_with g plans) → IsFound m name found → IfSome found RowFits → IsTold m g name (get plans name) found
plans_told m g plans name found is there fits = told_at m g name (get plans name) found (is.plans name) there fits
