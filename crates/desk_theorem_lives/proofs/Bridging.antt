-- A run of commands as a life.
use Rattle.{std.proofs.{Common.{◌≡◌, ℕ, false, List, [], ◌∷◌, ◌++◌, inl, refl, ◌∙◌, append_assoc}, lemmas.List.append-nil}, desk_model.specs.claim.Desk.Desk}
use Rattle.desk_theorem_lives.specs.{DeskInside.{LivedThrough, Stands}, claim.{Calls.{asked_in, told_in}, DeskLives.Lived}, declared.desk_lives.Answer.{Answer, TheVariants.Said}}
use Rattle.{desk_theorem_lives.specs.declared.desk_lives.Request.{Request, TheVariants.Change}, desk_theorem_runs.{specs.claim.Runs.{Call, Run}, proofs.Following.honest_before}}
use Rattle.desk_theorem_runs.specs.desk_store.{claim.Clerks.{desk_of, disk_of, is_halted, sectors_of, Keeps}, declared.clerk.Clerk.Clerk}
use Rattle.{sector_device.specs.declared.SectorDevice.Ghosts, desk_theorem_lives.proofs.DeskLiving.{ends, fails_no_less, goes_on}}

module _ {D : Type 0} {g : Ghosts D} where
  run_sectors : (x : Clerk D g) (calls : List Call) (z : Clerk D g) → Run x calls z → sectors_of z ≡ sectors_of x
  run_sectors x _ z (Run.over _) = refl
  run_sectors x _ z (Run.went _ c r y calls _ does run) = run_sectors y calls z run ∙ does.moves.sectors

  run_stands : (t : ℕ) (d : Desk) (n : ℕ) (all : List Request) (so_far : List Answer) (x : Clerk D g) (calls : List Call) (z : Clerk D g) → Run x calls z → sectors_of x ≡ n → (disk_of z).is_honest
      → Stands t d n all (asked_in calls) so_far x → Stands t d n all [] (so_far ++ told_in calls) z
  run_stands t d n all so_far x _ z (Run.over _) long honest stands = rw append-nil stands
  run_stands t d n all so_far x _ z (Run.went _ c r y calls _ does run) long honest stands =
      let here = goes_on t d n all (asked_in calls) so_far x (Change c) (Said r) y long (honest_before y calls z run honest) (r, refl, does) stands in
      rw append_assoc at (run_stands t d n all (so_far ++ Said r ∷ []) y calls z run (does.moves.sectors ∙ long) honest here)

  pub run_lived : (x : Clerk D g) (calls : List Call) (z : Clerk D g) → Run x calls z → LivedThrough (λ t u d e. Lived t u d (asked_in calls) (told_in calls) e) x z
  run_lived x calls z run =
      let t = (disk_of x).faults in
      let d = desk_of x in
      let n = sectors_of x in
      let all = asked_in calls in
      let stands : (Keeps x → is_halted x ≡ false → (disk_of z).is_honest → Stands t d n all [] (told_in calls) z)
      = λ keeps off honest. run_stands t d n all [] x calls z run refl honest (inl (off, keeps, refl, λ u told e lived. lived)) in
      record {
        sectors = run_sectors x calls z run;
        honest = honest_before x calls z run;
        faults = λ keeps off honest. fails_no_less t d n all (told_in calls) z (stands keeps off honest);
        lived = λ keeps off honest. ends t d n all (told_in calls) z (run_sectors x calls z run) honest (stands keeps off honest);
      }
