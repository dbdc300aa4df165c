-- What the rows of plans and of numbers make of a desk.
use Rattle.std.specs.{FinMap.{FinMap, get, insert, remove}, Prelude.{◌≡◌, ◌<◌, ◌+◌, ◌^◌, ℕ, List, [], length, Option, Some, None, IfSome}}
use Rattle.{desk_model.specs.{claim.{Desk.{Plan, name_cmp}, Geography.GeographyModel, Name.IsPlanName, Ranges.cut}, declared.kind.Kind.Kind}, desk_store_rows.specs.Rows.SameTag}
use Rattle.desk_store_rows.specs.{Changes.{RevisionsStay, desk_with, plan_row_of, with_revision}, claim.{DeskRows.{HasPlan, IsDesk, most_revisions}, Puts.put_rows, Rows.KeyMap}}
use Rattle.desk_store_rows.specs.{claim.{RevisionRows.HasRevision, Tidy.{IsNext, CountersFit}}, declared.value.{Counters.Counters, StoredPlan.StoredPlan}}
use Rattle.plan_revisions.specs.{PlanRows.{IsFound, plan_rows, created_rows, revised_rows}, claim.PlanRows.retired_map}

-- ---- a plan that is found
-- the row's numbers fit in their bytes
pub record RowFits (row : StoredPlan) : Type 0 where
  pub number_fits : row.number < 2 ^ 64
  pub districts_fit : row.districts < 2 ^ 16
  pub revisions_fit : row.revisions < 2 ^ 32

-- a row tells the plan, and no row that there is none
abbrev pub IsTold : KeyMap → GeographyModel → List ℕ → Option Plan → Option StoredPlan → Type 0
IsTold m g name None None = Unit {0}
IsTold m g name None (Some row) = ⊥
IsTold m g name (Some p) None = ⊥
IsTold m g name (Some p) (Some row) = (row ≡ plan_row_of row.number p) × HasPlan m g name row.number p

abbrev pub PlansAreTold : Type 0
PlansAreTold = (m : KeyMap) (g : GeographyModel) (plans : FinMap name_cmp Plan) (name : List ℕ) (found : Option StoredPlan)
    → IsDesk m (desk_with g plans) → IsFound m name found → IfSome found RowFits → IsTold m g name (get plans name) found

-- ---- a plan that is created or taken away
pub record MakesAndTakes (m : KeyMap) (g : GeographyModel) (plans : FinMap name_cmp Plan) (name : List ℕ) : Type 0 where
  pub created : (kind : Kind) (districts : ℕ) (next : Counters) → IsPlanName name → CountersFit next → districts < 2 ^ 16
      → IsDesk (put_rows m (created_rows name kind districts next)) (desk_with g (insert plans name (record {
        kind = kind;
        n = districts;
        revisions = [];
      })))
  pub taken_away : (number : ℕ) → IsDesk (retired_map m name number) (desk_with g (remove plans name))

abbrev pub PlansAreMade : Type 0
PlansAreMade = (m : KeyMap) (g : GeographyModel) (plans : FinMap name_cmp Plan) (name : List ℕ) → IsDesk m (desk_with g plans) → MakesAndTakes m g plans name

-- ---- a plan that gets one revision more
-- The chunks and the parts of the revision were put: it is there, and so is every revision of every plan as before.
pub record HasRevisionRows (m n : KeyMap) (g : GeographyModel) (plans : FinMap name_cmp Plan) (number : ℕ) (p : Plan) (districts : List ℕ) : Type 0 where
  pub seals : SameTag 83 m n
  pub rows : SameTag 103 m n
  pub names : SameTag 80 m n
  pub earlier : (other : List ℕ) (plan : ℕ) (q : Plan) → get plans other ≡ Some q
      → HasPlan m g other plan q → RevisionsStay m n plan (length q.revisions)
  pub added : HasRevision n number (length p.revisions + 1) (cut g districts)

-- then the plan's row with one revision more makes the desk with that revision, whichever numbers come next
abbrev pub RevisionsAreCounted : Type 0
RevisionsAreCounted = (m n : KeyMap) (g : GeographyModel) (plans : FinMap name_cmp Plan)
    (name : List ℕ) (row : StoredPlan) (p : Plan) (districts : List ℕ) (used : ℕ) (next : Counters)
    → IsDesk m (desk_with g plans) → get plans name ≡ Some p → row ≡ plan_row_of row.number p
    → HasPlan m g name row.number p → length districts ≡ length g.blocks → length p.revisions < most_revisions
    → HasRevisionRows m n g plans row.number p districts
    → IsDesk (put_rows n (revised_rows name row used next)) (desk_with g (insert plans name (with_revision p districts)))

-- ---- the numbers after a plan's row are those that come next
abbrev pub NumbersMoveOn : Type 0
NumbersMoveOn = (m : KeyMap) (name : List ℕ) (row : StoredPlan) (next : Counters) → IsNext (put_rows m (plan_rows name row next)) next
