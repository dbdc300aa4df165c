-- A command that the desk refuses leaves the desk.
use Rattle.std.specs.FinMap as map_of
use Rattle.std.proofs.Common.{◌≡◌, ◌⊎◌, ℕ, Bool, true, false, if◌then◌else◌, Option, Some, None, Result, Ok, Err, inl, inr, ⊎_elim, refl, rules}
use Rattle.desk_model.specs.{claim.{Baf.Values, Desk.{Plan, Desk}, Geography.GeographyModel, Outcome.IsAcceptance, Subject.revision_at}, declared.command.Command.Command}
use Rattle.desk_model.specs.claim.Step.{Outcome, create, on_revisions, whole_read, partly_listed, county_patched, patch_read, retired, fork_of, fork_from, fork, step_on, step_at, step}
use Rattle.desk_model.specs.declared.command.Command.TheVariants.{Create, Whole, Counties, Retire, Fork}

-- accepted, or the desk is as it was
abbrev Moved : Desk → Outcome → Type 0
Moved d o = IsAcceptance o.0 ⊎ (o.1 ≡ d)

moved_if : (d : Desk) (b : Bool) (x y : Outcome) → Moved d x → Moved d y → Moved d (if b then x else y)
moved_if d true x y first second = first
moved_if d false x y first second = second

moved_option : {A : Type 0} (d : Desk) (o : Option A) (f : Option A → Outcome) → Moved d (f None) → ((a : A) → Moved d (f (Some a))) → Moved d (f o)
moved_option d None f none some = none
moved_option d (Some a) f none some = some a

moved_result : {A E : Type 0} (d : Desk) (r : Result A E) (f : Result A E → Outcome) → ((e : E) → Moved d (f (Err e))) → ((a : A) → Moved d (f (Ok a))) → Moved d (f r)
moved_result d (Err e) f err ok = err e
moved_result d (Ok a) f err ok = ok a

revisions_moved : (d : Desk) (p : Option Plan) (k : ℕ) (go : Plan → Outcome) → ((q : Plan) → Moved d (go q)) → Moved d (on_revisions d p k go)
revisions_moved d None k go moved = inr refl
revisions_moved d (Some p) k go moved = search (rules, moved_if)

step_on_moved : (g : GeographyModel) (d : Desk) (c : Command) → Moved d (step_on g d c)
step_on_moved g d (Create name size) = moved_option d _ (create d name size.0 size.1) (search (rules, moved_if)) (λ p. inr refl)
step_on_moved g d (Whole name after body) = revisions_moved d _ after _ (λ p. moved_result d _ (whole_read g d name p) (λ f. inr refl) (λ listed. inl tt))
step_on_moved g d (Counties name after body) =
    let patched = λ (p : Plan) (listed : Values). moved_option d (partly_listed g listed) (county_patched g d name p listed) (inl tt) (λ county. inr refl) in
    revisions_moved d _ after _ (λ p. moved_result d _ (patch_read g d name p) (λ f. inr refl) (patched p))
step_on_moved g d (Retire name) = moved_option d _ (retired d name) (inr refl) (λ p. inl tt)
step_on_moved g d (Fork name from) =
    let of = λ (q : Plan). moved_option d (revision_at q from.1) (fork_of d name q) (inr refl) (λ districts. inl tt) in
    moved_option d _ (fork d name from) (moved_if d _ _ _ (inr refl) (moved_option d _ (λ q. fork_from d name q from.1) (inr refl) of)) (λ p. inr refl)

pub refused_same : (d : Desk) (c : Command) → (IsAcceptance (step d c).0 → ⊥) → (step d c).1 ≡ d
refused_same d c never = ⊎_elim (λ accepted. absurd (never accepted)) (λ same. same) (moved_option d d.geography (λ g. step_at g d c) (inr refl) (λ g. step_on_moved g d c))
