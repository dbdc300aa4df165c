-- No command changes the geography.
use Rattle.{std.specs.Prelude.{Result, Ok, Err, if◌then◌else◌, not, ◌==◌, nat_le, length, IfOk}, desk_gallery.specs.claim.After.after, desk_model.specs.claim.Baf.body_read}
use Rattle.{std.proofs.Common.{◌≡◌, ℕ, Bool, true, false, List, [], ◌∷◌, Option, Some, None, refl, sym, ap, subst, ◌∙◌}, desk_model.specs.claim.Desk.{Plan, Desk}}
use Rattle.desk_model.specs.{claim.{Geography.GeographyModel, Subject.revision_at}, declared.command.Command.{Command, TheVariants.{Create, Whole, Counties, Retire, Fork}}}
use Rattle.desk_model.specs.claim.Step.{Outcome, step, step_at, create, on_revisions, whole_read, patch_read, county_patched, partly_listed, retired, fork, fork_from, fork_of, plan_limit, revision_limit}
use Rattle.http_desk_seats.specs.Seated.{IsOf}
use Rattle.std.specs.FinMap as map_of

module _ (d : Desk) where
  -- the outcome has the same geography
  abbrev Stays : Outcome → Type 0
  Stays o = o.1.geography ≡ d.geography

  either : (b : Bool) (x y : Outcome) → Stays x → Stays y → Stays (if b then x else y)
  either true x y one other = one
  either false x y one other = other

  on_plan : (p : Option Plan) (after_it : ℕ) (go : Plan → Outcome) → ((q : Plan) → Stays (go q)) → Stays (on_revisions d p after_it go)
  on_plan None after_it go all = refl
  on_plan (Some p) after_it go all =
      either (not (after_it == length p.revisions)) _ _ refl (either (nat_le revision_limit (length p.revisions)) _ _ refl (all p))

  forked_from : (name : List ℕ) (q : Option Plan) (j : ℕ) → Stays (fork_from d name q j)
  forked_from name None j = refl
  forked_from name (Some q) j = elim (revision_at q j) as (λ r. Stays (fork_of d name q r)) [ None ↦ refl | Some districts ↦ refl ]

  at_geography : (g : Option GeographyModel) (c : Command) → Stays (step_at g d c)
  at_geography None c = refl
  at_geography (Some g) (Create name size) = elim (map_of.get d.plans name) as (λ p. Stays (create d name size.0 size.1 p)) [
    | Some p ↦ refl
    | None ↦ either (nat_le plan_limit (map_of.len d.plans)) _ _ refl refl
  ]
  at_geography (Some g) (Whole name after_it body) = on_plan (map_of.get d.plans name) after_it _
      (λ p. elim (body_read g p.n body) as (λ r. Stays (whole_read g d name p r)) [ Err f ↦ refl | Ok listed ↦ refl ])
  at_geography (Some g) (Counties name after_it body) = on_plan (map_of.get d.plans name) after_it _
      (λ p. elim (body_read g p.n body) as (λ r. Stays (patch_read g d name p r)) [
        | Err f ↦ refl
        | Ok listed ↦ elim (partly_listed g listed) as (λ part. Stays (county_patched g d name p listed part)) [ Some county ↦ refl | None ↦ refl ]
      ])
  at_geography (Some g) (Retire name) = elim (map_of.get d.plans name) as (λ p. Stays (retired d name p)) [ None ↦ refl | Some p ↦ refl ]
  at_geography (Some g) (Fork name from) = elim (map_of.get d.plans name) as (λ p. Stays (fork d name from p)) [
    | Some p ↦ refl
    | None ↦ either (nat_le plan_limit (map_of.len d.plans)) _ _ refl (forked_from name (map_of.get d.plans from.0) from.1)
  ]

-- nor do any commands
pub geography_stays : (d : Desk) (commands : List Command) → (after d commands).geography ≡ d.geography
geography_stays d [] = refl
geography_stays d (c ∷ commands) = geography_stays (step d c).1 commands ∙ at_geography d d.geography c

-- so what a visitor is shown has the geography of the first desk, of which the last report is
module _ {X E : Type 0} (shown : X → Desk) (first : Desk) (commands : List Command) where
  pub same_geography : (r : Result X E) → IfOk r (λ s. shown s ≡ after first commands) → IfOk r (λ s. (shown s).geography ≡ first.geography)
  same_geography (Ok s) is = ap (λ (d : Desk). d.geography) is ∙ geography_stays first commands
  same_geography (Err e) is = is

  pub may_be_asked : (r : Result X E) (last : Option GeographyModel) → IfOk r (λ s. shown s ≡ after first commands) → IsOf first.geography last
      → IfOk r (λ s. IsOf (shown s).geography last)
  may_be_asked (Ok s) last is of_it = subst (λ (g : Option GeographyModel). IsOf g last) (sym (ap (λ (d : Desk). d.geography) is ∙ geography_stays first commands)) of_it
  may_be_asked (Err e) last is of_it = is
