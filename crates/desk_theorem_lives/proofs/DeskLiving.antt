-- Requests in a life, and lives in turn.
use Rattle.std.{specs.{List.remove, Prelude.{⊤, None, Some}, declared.{alloc.Global.Global, sync.Arc.Arc}}, proofs.lemmas.{Bool.both_ways, List.append-nil}}
use Rattle.std.proofs.Common.{◌≡◌, ◌⊎◌, ℕ, ◌≤◌, ◌<◌, Bool, true, false, List, [], ◌∷◌, ◌++◌, length, get_or, inl, inr, ⊎_elim, refl, sym, subst, ◌∙◌, arith, append_assoc, rules}
use Rattle.desk_model.specs.{claim.{Desk.Desk, Geography.GeographyModel, Outcome.{IsStep, RefusalMay, CommandMay}, Step.step}, declared.command.Command.Command}
use Rattle.{desk_model.specs.declared.reply.{Refusal.Refusal, Reply.Reply}, desk_store_pages.specs.{claim.Desks.OpensDesk, declared.error.StoreError.StoreError}}
use Rattle.desk_theorem_lives.specs.{DeskInside.{OpensTo, Holds, GoingFailed, Stands, Loads, Answers}, declared.desk_lives.{Answer.Answer, Request.Request}}
use Rattle.{desk_theorem_lives.specs.claim.DeskLives.{loaded_desk, after_load, MayFail, MayRefuse, Failed, FailsAt, Lived}, desk_theorem_loading.specs.Loads.{Stopped, LoadRefused}}
use Rattle.desk_theorem_lives.specs.declared.desk_lives.{Answer.TheVariants.{Said, Loaded, Unloaded, Swept, Unswept}, Request.TheVariants.{Change, Look, Load, Sweep}}
use Rattle.desk_theorem_runs.specs.desk_store.{Loads.HasGeography, Sweeps.SweepRefused, claim.Clerks.{desk_of, disk_of, is_halted, pages_of, sectors_of, Keeps, Moves}}
use Rattle.{desk_theorem_runs.specs.desk_store.{claim.Commands.{MustBeFull, MayBeFull}, declared.clerk.Clerk.Clerk}, sector_device.specs.claim.Disk.Image}
use Rattle.sector_device.{specs.declared.SectorDevice.Ghosts, proofs.Moments.leaves_now}
use Rattle.desk_theorem_runs.proofs.desk_store.Moved.{unmoved}
pub use Rattle.{std.proofs.lemmas.Bool.cases_Bool as either, desk_theorem_runs.proofs.One.left_working}
use Rattle.desk_model.specs.declared.reply.Reply.TheVariants as reply
use Rattle.desk_model.specs.declared.reply.Refusal.TheVariants as refusal
use Rattle.desk_store_pages.specs.declared.error.StoreError.TheVariants as store

-- ---- what a command was answered, seen without the store
calm_step : (must : Type 0) (d : Desk) (c : Command) (r : Reply) (new : Desk) → IsStep must d c r new → IsStep ⊥ d c r new
calm_step must d c r new is = record { reply = is.reply; desk = is.desk; room = λ _ none. none }

calm_refusal : (must may failed : Type 0) (d : Desk) (c : Command) (r : Refusal) (new : Desk) → (failed → ⊥) → RefusalMay must may failed d c r new → RefusalMay ⊥ ⊤ ⊥ d c r new
calm_refusal must may failed d c refusal.Memory new works is = ((λ none. none), is.1)
calm_refusal must may failed d c refusal.Halted new works is = absurd (works is.0)
calm_refusal must may failed d c refusal.Full new works is = ((λ none. none), record { accepted = is.1.accepted; no_room = tt; desk = is.1.desk })
calm_refusal must may failed d c refusal.BadCompanion new works is = absurd is
calm_refusal must may failed d c r new works is = ((λ none. none), calm_step must d c (reply.Refused r) new is.1)

pub calm : (must may failed : Type 0) (d : Desk) (c : Command) (r : Reply) (new : Desk) → (failed → ⊥) → CommandMay must may failed d c r new → CommandMay ⊥ ⊤ ⊥ d c r new
calm must may failed d c (reply.Refused r) new works is = calm_refusal must may failed d c r new works is
calm must may failed d c (reply.Created name revisions) new works is = ((λ none. none), calm_step must d c (reply.Created name revisions) new is.1)
calm must may failed d c (reply.Retired name) new works is = ((λ none. none), calm_step must d c (reply.Retired name) new is.1)
calm must may failed d c _ new works is = absurd is

-- where the device has failed
halt_refusal : (must may failed : Type 0) (d : Desk) (c : Command) (r : Refusal) (new : Desk) → failed → RefusalMay must may failed d c r new → (reply.Refused r ≡ reply.Refused refusal.Halted) × (new ≡ d)
halt_refusal must may failed d c refusal.Halted new fails is = (refl, is.1)
halt_refusal must may failed d c refusal.BadCompanion new fails is = absurd is
halt_refusal must may failed d c _ new fails is = absurd (is.0 fails)

pub halt : (must may failed : Type 0) (d : Desk) (c : Command) (r : Reply) (new : Desk) → failed → CommandMay must may failed d c r new → (r ≡ reply.Refused refusal.Halted) × (new ≡ d)
halt must may failed d c (reply.Refused r) new fails is = halt_refusal must may failed d c r new fails is
halt must may failed d c (reply.Created name revisions) new fails is = absurd (is.0 fails)
halt must may failed d c (reply.Retired name) new fails is = absurd (is.0 fails)
halt must may failed d c _ new fails is = absurd is

-- ---- requests, one after the other
-- the first of some is taken out
pub popped : {X : Type 0} (xs : List X) (x : X) (ys : List X) → 0 < length xs → x ≡ get_or xs 0 x → ys ≡ remove xs 0 → xs ≡ x ∷ ys
popped [] x ys some here rest = absurd (let clash : 0 < 0 = some in omega (arith, clash))
popped (a ∷ more) x ys some here rest = λ i. sym here i ∷ sym rest i

pub clash_of : (b : Bool) → b ≡ true → b ≡ false → ⊥
clash_of b on off = both_ways b off on

module _ {D : Type 0} {g : Ghosts D} where
  -- What a request comes to where others are left: of a clerk that goes on, that fails in it, and that has failed before.
  record Meets (rest : List Request) (x : Clerk D g) (asked : Request) (a : Answer) (y : Clerk D g) : Type 0 where
    next : Desk
    moves : Moves next x y
    working : is_halted y ≡ false → (t u : ℕ) (told : List Answer) (e : Desk) → Lived t u (desk_of y) rest told e → Lived t u (desk_of x) (asked ∷ rest) (a ∷ told) e
    failing : is_halted x ≡ false → is_halted y ≡ true → (t u : ℕ) (told : List Answer) (e : Desk) → t < u → FailsAt (desk_of x) next rest told e
        → Lived t u (desk_of x) (asked ∷ rest) (a ∷ told) e
    same : is_halted y ≡ true → desk_of y ≡ desk_of x
    failed : is_halted y ≡ true → (told : List Answer) → Failed (desk_of x) rest told → Failed (desk_of x) (asked ∷ rest) (a ∷ told)

  -- what only a clerk that goes on is told
  meets_whole : (rest : List Request) (x : Clerk D g) (asked : Request) (a : Answer) (y : Clerk D g) (next : Desk) → Moves next x y → is_halted y ≡ false
      → ((t u : ℕ) (told : List Answer) (e : Desk) → Lived t u (desk_of y) rest told e → Lived t u (desk_of x) (asked ∷ rest) (a ∷ told) e) → Meets rest x asked a y
  meets_whole rest x asked a y next moves works lives = record {
    next = next;
    moves = moves;
    working = λ _. lives;
    failing = λ off on. absurd (clash_of (is_halted y) on works);
    same = λ on. absurd (clash_of (is_halted y) on works);
    failed = λ on. absurd (clash_of (is_halted y) on works);
  }

  -- why a geography was not loaded
  meets_unloaded : (rest : List Request) (x : Clerk D g) (area : Arc GeographyModel Global) (why : StoreError) (y : Clerk D g) (next : Desk) → Moves next x y
      → ((e : Desk) → (e ≡ desk_of x) ⊎ (e ≡ next) → (e ≡ desk_of x) ⊎ (e ≡ after_load (desk_of x).geography (desk_of x) area.value))
      → Loads x area.value (Unloaded why) y → Keeps x → (disk_of y).is_honest → Meets rest x (Load area) (Unloaded why) y
  meets_unloaded rest x area why y next moves made loads keeps honest = record {
    next = next;
    moves = moves;
    working = λ works t u told e lived. inr (inl (why, refl, loads.1 works keeps honest, rw loads.0 at lived));
    failing = λ off on t u told e more fails. inr (inr (more, loads.2 on keeps honest, (fails.0, made e fails.1)));
    same = λ on. loads.0;
    failed = λ on told failed. (loads.2 on keeps honest, failed);
  }

  meets : (rest : List Request) (x : Clerk D g) (asked : Request) (a : Answer) (y : Clerk D g) → Answers x asked a y → Keeps x → (disk_of y).is_honest → Meets rest x asked a y
  meets rest x (Change c) a y did keeps honest =
      let does = did.2 in
      let halts = λ (on : is_halted y ≡ true). halt (MustBeFull x c) (MayBeFull x (pages_of y) c) (is_halted y ≡ true) (desk_of x) c did.0 (desk_of y) on does.outcome in
      let calms = calm (MustBeFull x c) (MayBeFull x (pages_of y) c) (is_halted y ≡ true) (desk_of x) c did.0 (desk_of y) in
      record {
        next = (step (desk_of x) c).1;
        moves = does.moves;
        working = λ works t u told e lived. inl (did.0, desk_of y, did.1, calms (λ on. clash_of (is_halted y) on works) does.outcome, lived);
        failing = λ off on t u told e more fails. inr (more, did.1 ∙ (λ i. Said ((halts on).0 i)), fails);
        same = λ on. (halts on).1;
        failed = λ on told failed. (did.1 ∙ (λ i. Said ((halts on).0 i)), failed);
      }
  meets rest x (Look q) a y did keeps honest = subst (λ (z : Clerk D g). Meets rest x (Look q) a z) (sym did.3) (record {
    next = desk_of x;
    moves = unmoved (Keeps x) (desk_of x) x (λ keeps. keeps);
    working = λ works t u told e lived. (did.0, did.1, did.2, lived);
    failing = λ off on. absurd (clash_of (is_halted x) on off);
    same = λ on. refl;
    failed = λ on told failed. (did.0, did.1, did.2, failed);
  })
  meets rest x (Load area) Loaded y did keeps honest =
      meets_whole rest x (Load area) Loaded y (loaded_desk area.value) did.0 did.1.2 (λ t u told e lived. inl (refl, did.1.0, rw did.1.1 at lived))
  meets rest x (Load area) (Unloaded why) y did keeps honest = ⊎_elim
      (λ none. meets_unloaded rest x area why y (loaded_desk area.value) did.0
      (λ e. ⊎_elim (λ was. inl was) (λ is. inr (is ∙ (λ i. after_load (sym none i) (desk_of x) area.value)))) did.1 keeps honest)
      (λ still. meets_unloaded rest x area why y (desk_of x) still (λ e. ⊎_elim (λ was. inl was) (λ is. inl is)) did.1 keeps honest)
      did.1.3
  meets rest x (Load area) _ y did keeps honest = absurd did.1
  meets rest x Sweep (Swept count) y did keeps honest = meets_whole rest x Sweep (Swept count) y (desk_of x) did.0 did.2 (λ t u told e lived. inl (count, refl, rw did.1 at lived))
  meets rest x Sweep (Unswept why) y did keeps honest = record {
    next = desk_of x;
    moves = did.0;
    working = λ works t u told e lived. inr (inl ((λ i. Unswept (did.2 works keeps honest i)), rw did.1 at lived));
    failing = λ off on t u told e more fails. inr (inr (more, tt, fails));
    same = λ on. did.1;
    failed = λ on told failed. (tt, failed);
  }
  meets rest x Sweep _ y did keeps honest = absurd did.2

  pub goes_on : (t : ℕ) (d : Desk) (n : ℕ) (all rest : List Request) (so_far : List Answer) (x : Clerk D g) (asked : Request) (a : Answer) (y : Clerk D g) → sectors_of x ≡ n → (disk_of y).is_honest → Answers x asked a y
      → Stands t d n all (asked ∷ rest) so_far x → Stands t d n all rest (so_far ++ a ∷ []) y
  goes_on t d n all rest so_far x asked a y long honest did (inl working) =
      let met = meets rest x asked a y did working.1 honest in
      elim (either (is_halted y)) [
        | inr works ↦ inl (
          works,
          met.moves.keeps working.1,
          met.moves.calm works honest ∙ working.2,
          λ u told e lived. rw append_assoc (working.3 u (a ∷ told) e (met.working works t u told e lived)),
        )
        | inl on ↦ (
            let Goes = GoingFailed t d all rest (so_far ++ a ∷ []) (desk_of y) in
            let opens : (i : Image) (e : Desk) → (e ≡ desk_of x) ⊎ (e ≡ met.next) → OpensDesk (sectors_of x) e i → OpensTo n Goes i
            = λ i e is it.
            (e, (λ u told more failed. rw append_assoc (working.3 u (a ∷ told) e (met.failing working.0 on t u told e more (rw (met.same on) at failed, is)))), rw long at it) in
            let left = leaves_now _ _ _ (met.moves.any_moment working.1 working.0 honest) in
            inr (
              on,
              met.moves.keeps working.1,
              rw working.2 at (met.moves.rose working.1 working.0 on honest),
              λ i leaves. ⊎_elim (λ it. opens i (desk_of x) (inl refl) it) (λ it. opens i met.next (inr refl) it) (left i leaves),
            ))
      ]
  goes_on t d n all rest so_far x asked a y long honest did (inr halted) =
      let met = meets rest x asked a y did halted.1 honest in
      let still = met.moves.still halted.0 in
      inr (
        still.2,
        met.moves.keeps halted.1,
        rw still.0 halted.2,
        λ i leaves.
            (let was = halted.3 i (rw still.0 at leaves) in
            (was.0, (λ u told more failed. rw append_assoc (was.1 u (a ∷ told) more (met.failed still.2 told (rw still.1 at failed)))), was.2)),
      )

  -- a call leaves the sectors, and the device was honest before it if it is
  pub same_sectors : (x : Clerk D g) (asked : Request) (a : Answer) (y : Clerk D g) → Answers x asked a y → sectors_of y ≡ sectors_of x
  same_sectors x (Change c) a y did = did.2.moves.sectors
  same_sectors x (Look q) a y did = λ i. sectors_of (did.3 i)
  same_sectors x _ a y did = did.0.sectors

  pub was_honest : (x : Clerk D g) (asked : Request) (a : Answer) (y : Clerk D g) → Answers x asked a y → (disk_of y).is_honest → (disk_of x).is_honest
  was_honest x (Change c) a y did honest = did.2.moves.honest honest
  was_honest x (Look q) a y did honest = subst (λ (z : Clerk D g). (disk_of z).is_honest) did.3 honest
  was_honest x _ a y did honest = did.0.honest honest

  pub ends : (t : ℕ) (d : Desk) (n : ℕ) (all : List Request) (so_far : List Answer) (x : Clerk D g) → sectors_of x ≡ n → (disk_of x).is_honest → Stands t d n all [] so_far x → Holds n (Lived t (disk_of x).faults d all so_far) (disk_of x)
  ends t d n all so_far x long honest (inl working) i left =
      let opens = left_working (is_halted x) (sectors_of x) (desk_of x) i working.0 (working.1.left honest i left) in
      (desk_of x, rw append-nil at (working.3 (disk_of x).faults [] (desk_of x) refl), rw long at opens)
  ends t d n all so_far x long honest (inr halted) i left =
      let was = halted.3 i left in
      (was.0, rw append-nil at (was.1 (disk_of x).faults [] halted.2 tt), was.2)

  pub fails_no_less : (t : ℕ) (d : Desk) (n : ℕ) (all : List Request) (so_far : List Answer) (x : Clerk D g) → Stands t d n all [] so_far x → t ≤ (disk_of x).faults
  fails_no_less t d n all so_far x stands = search rules

  -- ---- why a geography was not loaded: none was there, or nothing was begun
  stopped_for : (x : Clerk D g) (area : GeographyModel) (e : StoreError) (y : Clerk D g) → Stopped x area e y → ((desk_of x).geography ≡ None) ⊎ Moves (desk_of x) x y
  stopped_for x area e y stopped = ⊎_elim (λ begin. inr begin.moves) (λ later. ⊎_elim (λ stage. inl stage.begun.unsealed) (λ seal. inl seal.whole.begun.unsealed) later) stopped

  pub refused_for : (x : Clerk D g) (area : GeographyModel) (e : StoreError) (y : Clerk D g) → LoadRefused x area e y → ((desk_of x).geography ≡ None) ⊎ Moves (desk_of x) x y
  refused_for x area store.AlreadySealed y refused = inr refused.moves
  refused_for x area _ y refused = search (rules, stopped_for)

  -- a load that was halted has halted
  pub halted_load : (x : Clerk D g) (area : GeographyModel) (y : Clerk D g) → Stopped x area store.Halted y → is_halted y ≡ true
  halted_load x area y stopped = ⊎_elim (λ begin. begin.why.0) (λ later. ⊎_elim (λ stage. stage.why.why.0) (λ seal. seal.why.0) later) stopped

  -- rows that a load met were those of the desk
  rows_found : (x : Clerk D g) (area : GeographyModel) (y : Clerk D g) → Stopped x area store.NotAStore y → Keeps x → (disk_of y).is_honest → ⊥
  rows_found x area y (inl begin) keeps honest = search (rules, clash_of)
  rows_found x area y (inr (inl stage)) keeps honest =
      let batch = stage.why in
      let stages = batch.before.staged (stage.begun.staged keeps) in
      batch.why.1.1 honest (desk_of batch.w) (stages.holds (batch.before.works stage.begun.works) (batch.moves.honest honest))
  rows_found x area y (inr (inr seal)) keeps honest =
      let whole = seal.whole in
      let stages = whole.staged.staged (whole.begun.staged keeps) in
      seal.why.1.1 honest (desk_of seal.w) (stages.holds (whole.staged.works whole.begun.works) (seal.moves.honest honest))

  sealed_there : (x : Clerk D g) → HasGeography x → (desk_of x).geography ≡ None → ⊥
  sealed_there x there none = let clash : Some there.0 ≡ None = sym there.1 ∙ none in cc

  pub may_refuse : (x : Clerk D g) (area : GeographyModel) (e : StoreError) (y : Clerk D g) → LoadRefused x area e y → is_halted y ≡ false → Keeps x → (disk_of y).is_honest → MayRefuse e (desk_of x)
  may_refuse x area store.AlreadySealed y refused works keeps honest = sealed_there x (refused.why.1 keeps honest)
  may_refuse x area _ y refused works keeps honest = search (rules, halted_load, rows_found, clash_of)

  -- where the device has failed, nothing else is told, unless one was sealed
  pub may_fail : (x : Clerk D g) (area : GeographyModel) (e : StoreError) (y : Clerk D g) → LoadRefused x area e y → is_halted y ≡ true → Keeps x → (disk_of y).is_honest → MayFail e (desk_of x)
  may_fail x area store.AlreadySealed y refused on keeps honest = sealed_there x (refused.why.1 keeps honest)
  may_fail x area _ y refused on keeps honest = search (rules, rows_found, clash_of)

  -- why a step of a sweep was refused
  pub swept_for : (x : Clerk D g) (e : StoreError) (y : Clerk D g) → (is_halted x ≡ true → is_halted y ≡ true) → ((disk_of y).is_honest → (disk_of x).is_honest) → SweepRefused x e (is_halted y) (pages_of y) → is_halted y ≡ false → Keeps x → (disk_of y).is_honest → e ≡ store.Memory
  swept_for x store.NotAStore y still was refused works keeps honest = absurd (refused.3 honest (keeps.holds refused.0 (was honest)))
  swept_for x _ y still was refused works keeps honest = search (rules, clash_of)
