-- A run with one command more.
use Rattle.std.proofs.{Common.{◌≡◌, ℕ, ◌+◌, Bool, false, List, [], ◌∷◌, ◌++◌, length, refl, sym, ap, ◌∙◌, arith, append_assoc, length-append, subst}, lemmas.List.append-nil}
use Rattle.{std.proofs.lemmas.List.Elements.{All-nil, All-push, All-weaker}, desk_gallery.specs.claim.Begun.{Beginning, BeginsWith, HasRun}}
use Rattle.{desk_gallery.specs.claim.Telling.{accepted_in, halted_in, halts_of}, desk_model.specs.{claim.Outcome.IsAcceptance, declared.command.Command.Command}}
use Rattle.{desk_model.specs.declared.reply.Reply.Reply, desk_theorem_runs.specs.claim.{Runs.{Call, acknowledged, if_accepted}, SweptRuns.{Tends, SweptRun}}}
use Rattle.{desk_theorem_runs.specs.desk_store.{claim.Commands.Does, declared.clerk.Clerk.Clerk}, sector_device.specs.declared.SectorDevice.Ghosts}
use Rattle.desk_model.specs.declared.reply.Reply.TheVariants as reply

acknowledged_more : (calls : List Call) (c : Command) (r : Reply) → acknowledged (calls ++ (c, r) ∷ []) ≡ acknowledged calls ++ if_accepted c r
acknowledged_more [] c r = append-nil (if_accepted c r)
acknowledged_more (e ∷ calls) c r = ap (λ l. if_accepted e.0 e.1 ++ l) (acknowledged_more calls c r) ∙ sym (append_assoc (if_accepted e.0 e.1) (acknowledged calls) (if_accepted c r))

-- what is shown grows by a command that is accepted, and by no other
grown_by : (shown new : List Command) (c : Command) (r : Reply) → (IsAcceptance r → new ≡ shown ++ c ∷ []) → ((IsAcceptance r → ⊥) → new ≡ shown) → new ≡ shown ++ if_accepted c r
grown_by shown new c (reply.Created name revisions) joined same = joined tt
grown_by shown new c (reply.Retired name) joined same = joined tt
grown_by shown new c _ joined same = same (λ none. none) ∙ sym (append-nil shown)

-- as many are shown as were told as accepted
length_by : (c : Command) (r : Reply) → length (if_accepted c r) ≡ accepted_in r
length_by c (reply.Created name revisions) = refl
length_by c _ = refl

pub counted_by : (shown new : List Command) (c : Command) (r : Reply) (total more : ℕ) → (IsAcceptance r → new ≡ shown ++ c ∷ []) → ((IsAcceptance r → ⊥) → new ≡ shown)
    → total ≡ length shown → more ≡ total + accepted_in r → more ≡ length new
counted_by shown new c r total more joined same so_far is =
    omega (arith, so_far, is, ap length (grown_by shown new c r joined same), length-append shown (if_accepted c r), length_by c r)

halts_more : (calls : List Call) (c : Command) (r : Reply) → halts_of (calls ++ (c, r) ∷ []) ≡ halts_of calls + halted_in r
halts_more [] c r = omega arith
halts_more (e ∷ calls) c r = omega (arith, halts_more calls c r)

module _ {D : Type 0} {g : Ghosts D} where
  -- one run after the other
  run_on : (a : Bool) (x : Clerk D g) (calls : List Call) (b : Bool) (y : Clerk D g) (more : List Call) (e : Bool) (z : Clerk D g) → SweptRun a x calls b y → SweptRun b y more e z → SweptRun a x (calls ++ more) e z
  run_on a x _ _ y more e z (SweptRun.over _ _) rest = rest
  run_on a x _ b y more e z (SweptRun.went _ _ c r w calls _ _ does run) rest = SweptRun.went a x c r w (calls ++ more) e z does (run_on a w calls b y more e z run rest)
  run_on a x calls b y more e z (SweptRun.tended _ _ m w _ _ _ tends run) rest = SweptRun.tended a x m w (calls ++ more) e z tends (run_on m w calls b y more e z run rest)

  pub has_run_more : (begins : Beginning) (asked : Command → Type 0) (x y : Clerk D g) (shown new : List Command) (halts more : ℕ) (c : Command) (r : Reply) → asked c → (so_far : HasRun begins asked x shown halts) → Does x c r y
      → (IsAcceptance r → new ≡ shown ++ c ∷ []) → ((IsAcceptance r → ⊥) → new ≡ shown) → more ≡ halts + halted_in r
      → (ran : HasRun begins asked y new more) × (ran.checked ≡ so_far.checked)
  has_run_more begins asked x y shown new halts more c r one so_far does joined same counted = (
    record {
      first = so_far.first;
      began = so_far.began;
      calls = so_far.calls ++ (c, r) ∷ [];
      checked = so_far.checked;
      run = run_on false so_far.first so_far.calls so_far.checked x ((c, r) ∷ []) so_far.checked y so_far.run (SweptRun.went so_far.checked x c r y [] so_far.checked y does (SweptRun.over so_far.checked y));
      each = All-push (λ (call : Call). asked call.0) so_far.calls (c, r) so_far.each one;
      are_shown = acknowledged_more so_far.calls c r ∙ (ap (λ (l : List Command). l ++ if_accepted c r) so_far.are_shown ∙ sym (grown_by shown new c r joined same));
      are_halts = halts_more so_far.calls c r ∙ (ap (λ (n : ℕ). n + halted_in r) so_far.are_halts ∙ sym counted);
    },
    refl,
  )

  -- with a step of a sweep more
  pub has_run_tended : (begins : Beginning) (asked : Command → Type 0) (x y : Clerk D g) (shown : List Command) (halts : ℕ) (was is : Bool) (so_far : HasRun begins asked x shown halts) → so_far.checked ≡ was → Tends was x is y
      → (ran : HasRun begins asked y shown halts) × (ran.checked ≡ is)
  has_run_tended begins asked x y shown halts was is so_far same tends = (
    record {
      first = so_far.first;
      began = so_far.began;
      calls = so_far.calls;
      checked = is;
      run = rw append-nil at (run_on false so_far.first so_far.calls so_far.checked x [] is y so_far.run
          (SweptRun.tended so_far.checked x is y [] is y (subst (λ (a : Bool). Tends a x is y) (sym same) tends) (SweptRun.over is y)));
      each = so_far.each;
      are_shown = so_far.are_shown;
      are_halts = so_far.are_halts;
    },
    refl,
  )

  -- of whose commands something else is known, too
  pub has_run_as : (begins : Beginning) (asked other : Command → Type 0) (x : Clerk D g) (shown : List Command) (halts : ℕ) → ((c : Command) → asked c → other c) → HasRun begins asked x shown halts → HasRun begins other x shown halts
  has_run_as begins asked other x shown halts also ran = search All-weaker

  pub has_run_none : (begins : Beginning) (asked : Command → Type 0) (x : Clerk D g) (shown : List Command) (halts : ℕ) → BeginsWith begins x → shown ≡ [] → halts ≡ 0 → (ran : HasRun begins asked x shown halts) × (ran.checked ≡ false)
  has_run_none begins asked x shown halts began none no_halt = (
    record { first = x; began = began; calls = []; checked = false; run = SweptRun.over false x; each = All-nil (λ (call : Call). asked call.0); are_shown = sym none; are_halts = sym no_halt },
    refl,
  )
