-- A run of commands, with steps of sweeps between them, as a life of the commands alone.
use Rattle.std.proofs.{Common.{◌≡◌, ◌⊎◌, ℕ, Bool, false, List, [], ◌∷◌, ◌++◌, inl, inr, ⊎_elim, refl, subst, ◌∙◌, append_assoc}, lemmas.List.append-nil}
use Rattle.{desk_model.specs.claim.Desk.Desk, desk_store_pages.specs.claim.Desks.OpensDesk, desk_theorem_lives.specs.{DeskInside.{LivedThrough, Stands}, claim.DeskLives.Lived}}
use Rattle.desk_theorem_lives.specs.{claim.Calls.{asked_in, told_in}, declared.desk_lives.{Answer.{Answer, TheVariants.Said}, Request.{Request, TheVariants.Change}}}
use Rattle.desk_theorem_lives.specs.{desk_store.{claim.Clerks.{desk_of, disk_of, is_halted, sectors_of, Keeps}, declared.clerk.Clerk.Clerk}, desk_theorem_runs.claim.Runs.Call}
use Rattle.{desk_theorem_lives.specs.desk_theorem_runs.claim.SweptRuns.{Tends, SweptRun}, sector_device.{specs.declared.SectorDevice.Ghosts, proofs.Moments.leaves_now}}
use Rattle.{desk_theorem.proofs.Requests.failed_lives, desk_theorem_lives.proofs.DeskLiving.{either, ends, fails_no_less, goes_on}}

module _ {D : Type 0} {g : Ghosts D} where
  swept_moved : (a : Bool) (x : Clerk D g) (calls : List Call) (b : Bool) (z : Clerk D g) → SweptRun a x calls b z → (sectors_of z ≡ sectors_of x) × ((disk_of z).is_honest → (disk_of x).is_honest)
  swept_moved a x _ _ z (SweptRun.over _ _) = (refl, λ honest. honest)
  swept_moved a x _ b z (SweptRun.went _ _ c r y calls _ _ does run) =
      let rest = swept_moved a y calls b z run in
      (rest.0 ∙ does.moves.sectors, λ honest. does.moves.honest (rest.1 honest))
  swept_moved a x calls b z (SweptRun.tended _ _ m y _ _ _ tends run) =
      let rest = swept_moved m y calls b z run in
      (rest.0 ∙ tends.moves.sectors, λ honest. tends.moves.honest (rest.1 honest))

  -- a step of a sweep changes nothing of what may be answered
  tended_stands : (t : ℕ) (d : Desk) (n : ℕ) (all : List Request) (calls : List Call) (so_far : List Answer) (a : Bool) (x : Clerk D g) (m : Bool) (y : Clerk D g) → sectors_of x ≡ n → (disk_of y).is_honest → Tends a x m y
      → Stands t d n all (asked_in calls) so_far x → Stands t d n all (asked_in calls) so_far y
  tended_stands t d n all calls so_far a x m y long honest tends (inl working) = elim (either (is_halted y)) [
    | inr works ↦ inl (works, tends.moves.keeps working.1, tends.moves.calm works honest ∙ working.2, λ u told e lived. working.3 u told e (rw tends.desk at lived))
    | inl on ↦ (
        let left = leaves_now _ _ _ (tends.moves.any_moment working.1 working.0 honest) in
        inr (
          on,
          tends.moves.keeps working.1,
          rw working.2 at (tends.moves.rose working.1 working.0 on honest),
          λ i leaves. (
            desk_of x,
            (λ u told rose failed. working.3 u told (desk_of x) (failed_lives t u (desk_of x) (asked_in calls) told (desk_of x) rose (rw tends.desk at failed) refl)),
            subst (λ (s : ℕ). OpensDesk s (desk_of x) i) long (⊎_elim (λ is. is) (λ is. is) (left i leaves)),
          ),
        ))
  ]
  tended_stands t d n all calls so_far a x m y long honest tends (inr halted) =
      let still = tends.moves.still halted.0 in
      inr (
        still.2,
        tends.moves.keeps halted.1,
        rw still.0 halted.2,
        λ i leaves. (let was = halted.3 i (rw still.0 at leaves) in (was.0, (λ u told more failed. was.1 u told more (rw still.1 at failed)), was.2)),
      )

  swept_stands : (t : ℕ) (d : Desk) (n : ℕ) (all : List Request) (so_far : List Answer) (a : Bool) (x : Clerk D g) (calls : List Call) (b : Bool) (z : Clerk D g) → SweptRun a x calls b z → sectors_of x ≡ n → (disk_of z).is_honest
      → Stands t d n all (asked_in calls) so_far x → Stands t d n all [] (so_far ++ told_in calls) z
  swept_stands t d n all so_far a x _ _ z (SweptRun.over _ _) long honest stands = rw append-nil stands
  swept_stands t d n all so_far a x _ b z (SweptRun.went _ _ c r y calls _ _ does run) long honest stands =
      let here = goes_on t d n all (asked_in calls) so_far x (Change c) (Said r) y long ((swept_moved a y calls b z run).1 honest) (r, refl, does) stands in
      rw append_assoc at (swept_stands t d n all (so_far ++ Said r ∷ []) a y calls b z run (does.moves.sectors ∙ long) honest here)
  swept_stands t d n all so_far a x calls b z (SweptRun.tended _ _ m y _ _ _ tends run) long honest stands =
      swept_stands t d n all so_far m y calls b z run (tends.moves.sectors ∙ long) honest (tended_stands t d n all calls so_far a x m y long ((swept_moved m y calls b z run).1 honest) tends stands)

  pub swept_lived : (a : Bool) (x : Clerk D g) (calls : List Call) (b : Bool) (z : Clerk D g) → SweptRun a x calls b z → LivedThrough (λ t u d e. Lived t u d (asked_in calls) (told_in calls) e) x z
  swept_lived a x calls b z run =
      let t = (disk_of x).faults in
      let d = desk_of x in
      let n = sectors_of x in
      let all = asked_in calls in
      let moved = swept_moved a x calls b z run in
      let stands : (Keeps x → is_halted x ≡ false → (disk_of z).is_honest → Stands t d n all [] (told_in calls) z)
      = λ keeps off honest. swept_stands t d n all [] a x calls b z run refl honest (inl (off, keeps, refl, λ u told e lived. lived)) in
      record {
        sectors = moved.0;
        honest = moved.1;
        faults = λ keeps off honest. fails_no_less t d n all (told_in calls) z (stands keeps off honest);
        lived = λ keeps off honest. ends t d n all (told_in calls) z moved.0 honest (stands keeps off honest);
      }
