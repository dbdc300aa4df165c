-- No block of a plan's revisions is in a district above its last.
use Rattle.std.{specs.{List.slice_get, Prelude.{◌==◌, All, Option}}, proofs.Common.{◌≡◌, ◌-◌, ℕ, Bool, true, false, cond, List, [], Some, None, sym, subst, ◌∙◌, inl, inr}}
use Rattle.std.proofs.lemmas.{List.Elements.{All-append, All-drop, All-get_or, All-push, All-take}, Option.{get_or_from_slice_get, slice_get_cases}}
use Rattle.{desk_model.specs.claim.{Desk.Plan, Subject.revision_at}, desk_store_catalogue.specs.desk_store_lists.Laid.with_at, desk_store_opening.specs.Reading.AreAllWithin}
use Rattle.{desk_store_pages.specs.claim.Desks.AreWithin, desk_store_rows.specs.Changes.with_revision}

-- a part that is laid over others
pub with_at_within : (n first : ℕ) (part districts : List ℕ) → AreWithin n part → AreWithin n districts → AreWithin n (with_at first part districts)
with_at_within n first part districts one all = search (All-append, All-take, All-drop)

-- ---- the last revision
no_some : (a : List ℕ) → ◌≡◌ {A = Option (List ℕ)} None (Some a) → ⊥
no_some a same = cc

at_within : (n : ℕ) (revisions : List (List ℕ)) (k : ℕ) (districts : List ℕ) → All (AreWithin n) revisions → slice_get revisions k ≡ Some districts → AreWithin n districts
at_within n revisions k districts all is = elim (slice_get_cases revisions k).1 [
  | inl found ↦ subst (AreWithin n) (get_or_from_slice_get revisions k districts [] is) (All-get_or (AreWithin n) revisions k [] found.1 all)
  | inr past ↦ absurd (no_some districts (sym past.1 ∙ is))
]

counted_within : (b : Bool) (n : ℕ) (revisions : List (List ℕ)) (k : ℕ) (districts : List ℕ) → All (AreWithin n) revisions → cond b None (slice_get revisions k) ≡ Some districts → AreWithin n districts
counted_within true n revisions k districts all is = absurd (no_some districts is)
counted_within false n revisions k districts all is = at_within n revisions k districts all is

pub revision_within : (p : Plan) (k : ℕ) (districts : List ℕ) → revision_at p k ≡ Some districts → AreAllWithin p → AreWithin p.n districts
revision_within p k districts is all = counted_within (k == 0) p.n p.revisions (k - 1) districts all is

pub one_more_within : (p : Plan) (districts : List ℕ) → AreAllWithin p → AreWithin p.n districts → AreAllWithin (with_revision p districts)
one_more_within p districts all one = All-push (AreWithin p.n) p.revisions districts all one
