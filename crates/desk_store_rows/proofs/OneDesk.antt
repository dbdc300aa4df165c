-- A map of rows holds one desk at most.
use Rattle.std.specs.{Cmp.Lexicographic.nat_list_cmp_total, FinMap.{get, same_map, slice_cmp-IsAntisymmetric, nat_cmp-IsAntisymmetric}, Int.from_be_bytes}
use Rattle.std.proofs.{Common.{[], rules, ◌≡◌, ◌<◌, ◌%◌, ◌^◌, ℕ, List, length, drop, get_or, Option, Some, None, refl, sym, ap, ◌∙◌, w16, w32, w64, arith}, lemmas.List.ext_get_or}
use Rattle.{std.proofs.lemmas.Nat.{from_be_bytes-to_be_bytes_2, from_be_bytes-to_be_bytes_4, from_be_bytes-to_be_bytes_8}, desk_model.specs.Ranges.ListsAreCut}
use Rattle.{desk_model.specs.{claim.{Desk.{Desk, Plan}, Geography.GeographyModel}, declared.kind.Kind.Kind}, desk_store_rows.specs.{Changes.plan_row_of, claim.Rows.KeyMap}}
use Rattle.desk_store_rows.specs.{claim.{DeskRows.{HasPlan, IsPlanAt, IsDesk}, Values.{plan_bytes, kind_code}}, declared.value.StoredPlan.StoredPlan}
use Rattle.desk_store_rows.proofs.OneGeography.{one_revision, value_is, no_value, one_geography}

-- ---- a plan's row
same_kind : (a b : Kind) → kind_code a % 256 ≡ kind_code b % 256 → a ≡ b
same_kind a b same = search (arith)

pub row_number : (a b : StoredPlan) → a.number < 2 ^ 64 → b.number < 2 ^ 64 → plan_bytes a ≡ plan_bytes b → a.number ≡ b.number
row_number a b fa fb same = sym (from_be_bytes-to_be_bytes_8 a.number fa) ∙ ap (from_be_bytes w64) same ∙ from_be_bytes-to_be_bytes_8 b.number fb

pub row_revisions : (a b : StoredPlan) → a.revisions < 2 ^ 32 → b.revisions < 2 ^ 32 → plan_bytes a ≡ plan_bytes b → a.revisions ≡ b.revisions
row_revisions a b fa fb same = sym (from_be_bytes-to_be_bytes_4 a.revisions fa) ∙ ap (λ l. from_be_bytes w32 (drop 11 l)) same ∙ from_be_bytes-to_be_bytes_4 b.revisions fb

-- ---- plans
module _ (cuts : ListsAreCut) (m : KeyMap) (g : GeographyModel) (name : List ℕ) where
  one_plan : (one other : ℕ) (p q : Plan) → HasPlan m g name one p → HasPlan m g name other q → p ≡ q
  one_plan one other p q a b =
      let same : plan_bytes (plan_row_of one p) ≡ plan_bytes (plan_row_of other q) = value_is (plan_bytes (plan_row_of one p)) (plan_bytes (plan_row_of other q)) (sym a.row ∙ b.row) in
      let number : one ≡ other = row_number (plan_row_of one p) (plan_row_of other q) a.number_fits b.number_fits same in
      let kind : p.kind ≡ q.kind = same_kind p.kind q.kind (ap (λ l. get_or l 8 0) same) in
      let districts : p.n ≡ q.n = sym (from_be_bytes-to_be_bytes_2 p.n a.districts_fit) ∙ ap (λ l. from_be_bytes w16 (drop 9 l)) same ∙ from_be_bytes-to_be_bytes_2 q.n b.districts_fit in
      let count : length p.revisions ≡ length q.revisions = row_revisions (plan_row_of one p) (plan_row_of other q) (omega arith) (omega arith) same in
      let revisions : p.revisions ≡ q.revisions = search (rules, ext_get_or {A = List ℕ} [], one_revision) in
      λ i. record { kind = kind i; n = districts i; revisions = revisions i }

pub one_plan_at : (cuts : ListsAreCut) (m : KeyMap) (g : Option GeographyModel) (name : List ℕ) (p q : Option Plan) → IsPlanAt m g name p → IsPlanAt m g name q → p ≡ q
one_plan_at cuts m g name None None a b = refl
one_plan_at cuts m (Some g) name None (Some q) a b = absurd (no_value _ (sym b.1.row ∙ a))
one_plan_at cuts m (Some g) name (Some p) None a b = absurd (no_value _ (sym a.1.row ∙ b))
one_plan_at cuts m (Some g) name (Some p) (Some q) a b = ap Some (one_plan cuts m g name a.0 b.0 p q a.1 b.1)
one_plan_at cuts m None name _ _ a b = search rules

pub one_desk : (cuts : ListsAreCut) (m : KeyMap) (d e : Desk) → IsDesk m d → IsDesk m e → d ≡ e
one_desk cuts m d e a b =
    let same = one_geography m d.geography e.geography a.geography b.geography in
    let plans = same_map nat_list_cmp_total (slice_cmp-IsAntisymmetric nat_cmp-IsAntisymmetric) d.plans e.plans (λ name. one_plan_at cuts m e.geography name (get d.plans name) (get e.plans name) (rw (← same) (a.plans name)) (b.plans name)) in
    λ i. record { geography = same i; plans = plans i }
