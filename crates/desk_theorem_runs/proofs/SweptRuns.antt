-- Runs of a clerk whose store is swept between commands, by induction on the calls.
use Rattle.std.proofs.{Common.{◌≡◌, ◌⊎◌, ℕ, suc, ◌≤◌, Bool, true, false, if◌then◌else◌, List, [], ◌∷◌, ◌++◌, inl, inr, ⊎_elim, refl, ◌∙◌, arith}, lemmas.Bool.both_ways}
use Rattle.{desk_model.specs.{claim.{Desk.Desk, Outcome.IsAcceptance, Step.step}, declared.{command.Command.Command, reply.Reply.Reply}}, desk_store.specs.claim.Commands.Does}
use Rattle.{desk_store.specs.{claim.Clerks.{desk_of, disk_of, pages_of, sectors_of, Keeps}, declared.clerk.Clerk.Clerk}, desk_store_pages.specs.claim.Desks.OpensDesk}
use Rattle.{desk_theorem_runs.specs.claim.Runs.{Call, after, if_accepted, acknowledged, OpensAfterSome, OpenSince}, page_store.specs.claim.Transactions.IsSame}
use Rattle.{desk_theorem_runs.specs.claim.SweptRuns.{SweptRun, acknowledged_at, in_flight, SurvivesEachSwept}, sector_device.specs.claim.{Disk.{Disk, Image}, Moments.LeavesOnly}}
use Rattle.{sector_device.specs.declared.SectorDevice.Ghosts, desk_theorem_runs.proofs.{One.left_working, Steps.refused_same}, page_store.proofs.Stops.{leaves_here, leaves_quiet}}
use Rattle.sector_device.proofs.Moments.{leaves_more, leaves_wider}
use Rattle.desk_model.specs.declared.reply.Reply.TheVariants as reply

-- no command, one command more before the others
none_of : (sectors : ℕ) (d : Desk) (commands : List Command) (c : Image) → OpensDesk sectors d c → OpensAfterSome sectors d commands c
none_of sectors d commands c opens = record { count = 0; within = omega arith; opens = opens }

abbrev pub one_more : (sectors : ℕ) (d : Desk) (a : Command) (commands : List Command) (c : Image) → OpensAfterSome sectors (step d a).1 commands c
    → OpensAfterSome sectors d (a ∷ commands) c
one_more sectors d a commands c some = record { count = suc some.count; within = omega (arith, some.within); opens = some.opens }

-- an accepted command's reply, or another
accepts : (r : Reply) → (IsAcceptance r × ((c : Command) → if_accepted c r ≡ c ∷ []) × ((m : ℕ) → if_accepted m r ≡ m ∷ [])) ⊎ ((IsAcceptance r → ⊥) × ((c : Command) → if_accepted c r ≡ []) × ((m : ℕ) → if_accepted m r ≡ []))
accepts (reply.Created name revisions) = inl (tt, λ c. refl, λ m. refl)
accepts (reply.Retired name) = inl (tt, λ c. refl, λ m. refl)
accepts _ = inr (λ none. none, λ c. refl, λ m. refl)

abbrev Either : ℕ → Desk → Command → Image → Type 0
Either sectors d a c = OpensDesk sectors d c ⊎ OpensDesk sectors (step d a).1 c

some_of : (sectors : ℕ) (d : Desk) (a : Command) (commands : List Command) (c : Image) → Either sectors d a c → OpensAfterSome sectors d (a ∷ commands) c
some_of sectors d a commands c (inl opens) = none_of sectors d (a ∷ commands) c opens
some_of sectors d a commands c (inr opens) = one_more sectors d a commands c (none_of sectors (step d a).1 commands c opens)

-- a fault came in a call that the desk accepts, or in one that it refuses
some_flying : (sectors : ℕ) (d : Desk) (a : Command) (c : Image) → Either sectors d a c → OpensAfterSome sectors d (if_accepted a (step d a).0) c
some_flying sectors d a c opens = elim (accepts (step d a).0) [
  | inl told ↦ rw (told.1 a) (some_of sectors d a [] c opens)
  | inr told ↦ rw (told.1 a) (none_of sectors d [] c (⊎_elim (λ was. was) (λ (is : OpensDesk sectors (step d a).1 c). rw (refused_same d a told.0) at is) opens))
]

module _ (sectors : ℕ) (z : Disk) (ended : Bool) (last : Desk) where
  -- what a run comes to, over plain disks: from a to z the desk d became the last one by these commands, acknowledged at these moments
  record Goes (a : Disk) (d : Desk) (commands : List Command) (moments : List ℕ) (flying : List Command) : Type 0 where
    desk : last ≡ after d commands
    halted : ended ≡ false → flying ≡ []
    leaves : LeavesOnly (OpensAfterSome sectors d (commands ++ flying)) a z
    -- for a run that began earlier
    since : (t : ℕ) → t ≤ a.moment → ((c : Image) → z.left t c → OpensAfterSome sectors d (commands ++ flying) c)
        → OpenSince z sectors d t moments (commands ++ flying)

  goes_over : (P : Image → Type 0) (a : Disk) (d : Desk) (flying : List Command) → last ≡ d → (ended ≡ false → flying ≡ [])
      → ((c : Image) → P c → OpensAfterSome sectors d flying c) → LeavesOnly P a z → Goes a d [] [] flying
  goes_over P a d flying desk halted some leaves =
      let all = leaves_wider P (OpensAfterSome sectors d flying) a z some leaves in
      record { desk = desk; halted = halted; leaves = all; since = λ t le has. (omega (arith, le, leaves.later), has) }

  goes_accepted : (a b : Disk) (d : Desk) (c : Command) (commands : List Command) (moments : List ℕ) (flying : List Command) → LeavesOnly (Either sectors d c) a b
      → Goes b (step d c).1 commands moments flying → Goes a d (c ∷ commands) (b.moment ∷ moments) flying
  goes_accepted a b d c commands moments flying leaves goes =
      let all = commands ++ flying in
      let P = OpensAfterSome sectors d (c ∷ all) in
      let first = leaves_wider (Either sectors d c) P a b (some_of sectors d c all) leaves in
      record {
        desk = goes.desk;
        halted = goes.halted;
        leaves = leaves_more P a b z first (leaves_wider (OpensAfterSome sectors (step d c).1 all) P b z (one_more sectors d c all) goes.leaves);
        since = λ t le has. (omega (arith, le, leaves.later), has, goes.since b.moment (omega arith) goes.leaves.each);
      }

  goes_refused : (a b : Disk) (d : Desk) (commands : List Command) (moments : List ℕ) (flying : List Command) → LeavesOnly (OpensDesk sectors d) a b
      → Goes b d commands moments flying → Goes a d commands moments flying
  goes_refused a b d commands moments flying leaves goes =
      let P = OpensAfterSome sectors d (commands ++ flying) in
      record {
        desk = goes.desk;
        halted = goes.halted;
        leaves = leaves_more P a b z (leaves_wider (OpensDesk sectors d) P a b (none_of sectors d (commands ++ flying)) leaves) goes.leaves;
        since = λ t le has. goes.since t (omega (arith, le, leaves.later)) has;
      }

-- by whether a fault came
by_fault : (P : List Command → Type 0) (b : Bool) (flying later : List Command) → (b ≡ true → P flying) → (b ≡ false → P later) → P (if b then flying else later)
by_fault P true flying later on off = on refl
by_fault P false flying later on off = off refl

goes_as : (s sectors : ℕ) (z : Disk) (ended : Bool) (last : Desk) (a : Disk) (e d : Desk) (commands : List Command) (moments : List ℕ) (flying : List Command) → s ≡ sectors → e ≡ d
    → Goes s z ended last a e commands moments flying → Goes sectors z ended last a d commands moments flying
goes_as s sectors z ended last a e d commands moments flying same is goes = rw (same, is) at goes

module _ {D : Type 0} {g : Ghosts D} where
  pub honest_run : (a : Bool) (x : Clerk D g) (calls : List Call) (b : Bool) (z : Clerk D g) → SweptRun a x calls b z → (disk_of z).is_honest → (disk_of x).is_honest
  honest_run a x _ _ z (SweptRun.over _ _) honest = honest
  honest_run a x _ b z (SweptRun.went _ _ c r y calls _ _ does run) honest = does.moves.honest (honest_run a y calls b z run honest)
  honest_run a x calls b z (SweptRun.tended _ _ m y _ _ _ tends run) honest = tends.moves.honest (honest_run m y calls b z run honest)

  -- after a halt nothing is acknowledged and nothing changes
  record IsStill (a : Bool) (x : Clerk D g) (calls : List Call) (b : Bool) (z : Clerk D g) (run : SweptRun a x calls b z) : Type 0 where
    none : acknowledged calls ≡ []
    never : acknowledged_at a x calls b z run ≡ []
    same : IsSame (pages_of x) (pages_of z)
    desk : desk_of z ≡ desk_of x
    on : z.halted ≡ true

  -- an accepted command has the step's desk, and its call no fault
  accepted_is : (x : Clerk D g) (c : Command) (r : Reply) (y : Clerk D g) → Does x c r y → IsAcceptance r → (desk_of y ≡ (step (desk_of x) c).1) × (y.halted ≡ true → ⊥)
  accepted_is x c (reply.Created name revisions) y does accepted = (does.outcome.1.desk, does.outcome.0)
  accepted_is x c (reply.Retired name) y does accepted = (does.outcome.1.desk, does.outcome.0)
  accepted_is x c _ y does accepted = absurd accepted

  halted_told : (x : Clerk D g) (c : Command) (r : Reply) (y : Clerk D g) → Does x c r y → y.halted ≡ true
      → (IsAcceptance r → ⊥) × ((a : Command) → if_accepted a r ≡ []) × ((m : ℕ) → if_accepted m r ≡ [])
  halted_told x c r y does on = ⊎_elim (λ told. absurd ((accepted_is x c r y does told.0).1 on)) (λ told. told) (accepts r)

  halted_run : (a : Bool) (x : Clerk D g) (calls : List Call) (b : Bool) (z : Clerk D g) (run : SweptRun a x calls b z) → x.halted ≡ true → IsStill a x calls b z run
  halted_run a x _ _ z (SweptRun.over _ _) on = record { none = refl; never = refl; same = refl; desk = refl; on = on }
  halted_run a x _ b z (SweptRun.went _ _ c r y calls _ _ does run) on =
      let still = does.moves.still on in
      let rest = halted_run a y calls b z run still.2 in
      let told = halted_told x c r y does still.2 in
      record { none = rw (told.1 c) rest.none; never = rw (told.2 (disk_of y).moment) rest.never; same = rest.same ∙ still.0; desk = rest.desk ∙ still.1; on = rest.on }
  halted_run a x calls b z (SweptRun.tended _ _ m y _ _ _ tends run) on =
      let still = tends.moves.still on in
      let rest = halted_run m y calls b z run still.2 in
      record { none = rest.none; never = rest.never; same = rest.same ∙ still.0; desk = rest.desk ∙ still.1; on = rest.on }

  -- a stop now leaves the desk
  here : (x : Clerk D g) → Keeps x → x.halted ≡ false → (disk_of x).is_honest → LeavesOnly (OpensDesk (sectors_of x) (desk_of x)) (disk_of x) (disk_of x)
  here x keeps off honest =
      leaves_here (OpensDesk (sectors_of x) (desk_of x)) (disk_of x) (λ c leaves. left_working x.halted (sectors_of x) (desk_of x) c off (keeps.left honest c leaves))

  goes : (a : Bool) (x : Clerk D g) (calls : List Call) (b : Bool) (z : Clerk D g) (run : SweptRun a x calls b z) → Keeps x → x.halted ≡ false → (disk_of z).is_honest
      → Goes (sectors_of x) (disk_of z) z.halted (desk_of z) (disk_of x) (desk_of x) (acknowledged calls) (acknowledged_at a x calls b z run) (in_flight a x calls b z run)
  goes a x _ _ z (SweptRun.over _ _) keeps off honest =
      goes_over _ _ _ _ _ (disk_of x) (desk_of x) [] refl (λ works. refl) (none_of (sectors_of x) (desk_of x) []) (here x keeps off honest)
  goes a x _ b z (SweptRun.went _ _ c r y calls _ _ does run) keeps off honest =
      let was_honest = honest_run a y calls b z run honest in
      let leaves = does.moves.any_moment keeps off was_honest in
      by_fault (Goes _ _ _ _ _ _ _ _) y.halted _ _
      (λ on. (
      let still = halted_run a y calls b z run on in
      let told = halted_told x c r y does on in
      let whole : LeavesOnly (Either (sectors_of x) (desk_of x) c) (disk_of x) (disk_of z) = rw still.same leaves in
      rw (told.1 c, told.2 (disk_of y).moment, still.none, still.never)
      (goes_over _ _ _ _ _ _ _ _ (still.desk ∙ does.shown told.0) (λ works. absurd (both_ways z.halted works still.on)) (some_flying (sectors_of x) (desk_of x) c) whole)))
      (λ works. (
      let rest = goes a y calls b z run (does.moves.keeps keeps) works honest in
      let began = here x keeps off (does.moves.honest was_honest) in
      elim (accepts r) [
        | inl told ↦ (
            let later = goes_as _ _ _ _ _ _ _ _ _ _ _ does.moves.sectors (accepted_is x c r y does told.0).0 rest in
            rw (told.1 c, told.2 (disk_of y).moment) (goes_accepted _ _ _ _ _ (disk_of y) _ c _ _ _ leaves later))
        | inr told ↦ (
            let quiet = leaves_quiet (pages_of x) (pages_of y) (does.quiet works told.0) was_honest (OpensDesk (sectors_of x) (desk_of x)) (disk_of x) began in
            let later = goes_as _ _ _ _ _ _ _ _ _ _ _ does.moves.sectors (does.shown told.0) rest in
            rw (told.1 c, told.2 (disk_of y).moment) (goes_refused _ _ _ _ _ (disk_of y) _ _ _ _ quiet later))
      ]))
  goes a x calls b z (SweptRun.tended _ _ m y _ _ _ tends run) keeps off honest =
      let one = OpensDesk (sectors_of x) (desk_of x) in
      let any_moment = tends.moves.any_moment keeps off (honest_run m y calls b z run honest) in
      let leaves = leaves_wider (λ i. one i ⊎ one i) one (disk_of x) (disk_of y) (λ i. ⊎_elim (λ is. is) (λ is. is)) any_moment in
      by_fault (Goes _ _ _ _ _ _ _ _) y.halted _ _
      (λ on. (
      let still = halted_run m y calls b z run on in
      let whole : LeavesOnly one (disk_of x) (disk_of z) = rw still.same leaves in
      rw (still.none, still.never) (goes_over _ _ _ _ one _ _ _ (still.desk ∙ tends.desk) (λ works. refl) (none_of (sectors_of x) (desk_of x) []) whole)))
      (λ works. (
      let rest = goes m y calls b z run (tends.moves.keeps keeps) works honest in
      goes_refused _ _ _ _ _ (disk_of y) _ _ _ _ leaves (goes_as _ _ _ _ _ _ _ _ _ _ _ tends.moves.sectors tends.desk rest)))

  pub survives : (x : Clerk D g) → SurvivesEachSwept x
  survives x a calls b z run keeps off honest =
      let all = goes a x calls b z run keeps off honest in
      record { desk = all.desk; halted = all.halted; since = all.since (disk_of x).moment (omega arith) all.leaves.each }
