-- What changes of rows make of the desk.
use Rattle.std.{specs.FinMap.{FinMap, get}, proofs.Common.{◌≡◌, ◌<◌, ◌≤◌, ◌+◌, ℕ, List, [], ◌∷◌, ◌++◌, length, Some}}
use Rattle.{desk_model.specs.claim.{Desk.{Desk, Plan, name_cmp}, Geography.GeographyModel, Ranges.cut}, desk_store_rows.specs.{Rows.SameTag, claim.{DeskRows.HasPlan, Keys.named}}}
use Rattle.desk_store_rows.specs.{claim.{RevisionRows.HasRevision, Rows.{KeyMap, row_in, Has}, Values.plan_bytes}, declared.value.StoredPlan.StoredPlan}

-- a plan's row
abbrev pub plan_row_of : ℕ → Plan → StoredPlan
plan_row_of number p = record { number = number; kind = p.kind; districts = p.n; revisions = length p.revisions }

-- a desk with a geography
abbrev pub desk_with : GeographyModel → FinMap name_cmp Plan → Desk
desk_with g plans = record { geography = Some g; plans = plans }

abbrev pub with_revision : Plan → List ℕ → Plan
with_revision p districts = record p { revisions = p.revisions ++ districts ∷ [] }

-- the revisions of a plan, up to one, are there as before
abbrev pub RevisionsStay : KeyMap → KeyMap → ℕ → ℕ → Type 0
RevisionsStay m n plan last = (revision : ℕ) (counties : List (List ℕ)) → 0 < revision
    → revision ≤ last → HasRevision m plan revision counties → HasRevision n plan revision counties

-- The rows changed as one revision of a plan is added: the plan's row tells one more, the new revision is there, and every
-- revision of every plan is there as before.
pub record IsRevised (m n : KeyMap) (g : GeographyModel) (plans : FinMap name_cmp Plan)
    (name : List ℕ) (number : ℕ) (p : Plan) (districts : List ℕ) : Type 0 where
  pub seals : SameTag 83 m n
  pub rows : SameTag 103 m n
  pub others : (other : List ℕ) → (other ≡ name → ⊥) → row_in n (named other) ≡ row_in m (named other)
  pub row : Has n (named name) (plan_bytes (plan_row_of number (with_revision p districts)))
  pub earlier : (other : List ℕ) (plan : ℕ) (q : Plan) → get plans other ≡ Some q
      → HasPlan m g other plan q → RevisionsStay m n plan (length q.revisions)
  pub added : HasRevision n number (length p.revisions + 1) (cut g districts)
