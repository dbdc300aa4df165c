-- A command at the clerk beside the writer.
use Rattle.{std.{specs.Prelude.⊤, proofs.lemmas.Bool.{both_ways, cases_Bool}}, desk_gallery.specs.{Fronts.{Kept, kept_of, IsClerk, Works, SweepsOn, OpensShown}, claim.After.after}}
use Rattle.std.proofs.Common.{rules, ◌≡◌, ◌+◌, ℕ, Bool, Option, Result, true, false, List, [], ◌∷◌, ◌++◌, length, inl, inr, refl, sym, ap, subst, ◌∙◌, arith, length-append}
use Rattle.{desk_gallery.specs.{Working.{Agree, Worked}, claim.{Outcomes.OutcomeMay, Working.AreAccepted}}, desk_model.specs.claim.{Desk.Desk, Step.step}}
use Rattle.desk_model.specs.{claim.Outcome.{CommandMay, IsAcceptance, IsStep}, declared.{command.Command.Command, reply.{Refusal.Refusal, Reply.Reply}}}
use Rattle.desk_model.specs.declared.reply.{Refusal.TheVariants.{BadCompanion, Full, Memory, Halted}, Reply.TheVariants.{Created, Refused, Retired}}
use Rattle.desk_theorem_runs.specs.{Steps.StepMay, claim.SweptRuns.Tends, desk_store.claim.{Clerks.{desk_of, is_halted, sectors_of, Keeps, Reads}, Keeping.IsLeft}}
use Rattle.desk_theorem_runs.specs.desk_store.{claim.Commands.{command_of, MustBeFull, PrepareErr, IsReady, IsMade, IsNotMade, Commits, Does}, declared.clerk.Clerk.Clerk}
use Rattle.{desk_theorem_runs.specs.{desk_store.declared.ready.Ready.Ready, desk_store_pages.declared.error.StoreError.StoreError}, desk_gallery.proofs.Pasts.prefix_self}
use Rattle.{sector_device.specs.declared.SectorDevice.Ghosts, desk_gallery.proofs.Afters.{after_more, accepted_first, accepted_more}}
use mathlib.Core.List.{IsPrefix}
use Rattle.desk_theorem_runs.proofs.desk_store.Kept.{acceptance_is, accepted_is}
use Rattle.desk_theorem_runs.proofs.desk_store.Done.{refused_does, committed_does}

-- a clerk's outcome without its room
step_of : (must : Type 0) (d : Desk) (c : Command) (r : Reply) (e : Desk) → IsStep must d c r e → IsStep ⊥ d c r e
step_of must d c r e is = record { reply = is.reply; desk = is.desk; room = λ accepted none. none }

may_be : (must may failed : Type 0) (d : Desk) (c : Command) (r : Reply) (e : Desk) → CommandMay must may failed d c r e → CommandMay ⊥ ⊤ failed d c r e
may_be must may failed d c (Refused Full) e h = (h.0, record { accepted = h.1.accepted; no_room = tt; desk = h.1.desk })
may_be must may failed d c (Refused Memory) e h = h
may_be must may failed d c (Refused Halted) e h = h
may_be must may failed d c (Refused BadCompanion) e h = h
may_be must may failed d c (Refused why) e h = (h.0, step_of must d c (Refused why) e h.1)
may_be must may failed d c (Created name revisions) e h = (h.0, step_of must d c (Created name revisions) e h.1)
may_be must may failed d c (Retired name) e h = (h.0, step_of must d c (Retired name) e h.1)
may_be must may failed d c _ e h = h

module _ {D : Type 0} {g : Ghosts D} where
  pub was_working : (x y : Clerk D g) → Reads x y → is_halted y ≡ false → is_halted x ≡ false
  was_working x y reads works = search (rules, cases_Bool)

  agree_read : (first : Desk) (x y : Clerk D g) (s : List Command × List Command) → Agree first x s → Reads x y → Agree first y s
  agree_read first x y s agree reads = search rules

  -- a command that was refused before its change was appended
  pub refused_work : (first : Desk) (x y : Clerk D g) (s : List Command × List Command) (c : Command) (r : Refusal) → Agree first x s → Reads x y → y.loading ≡ x.loading → PrepareErr x c r y → Worked first x s c (Refused r) y s
  refused_work first x y s c r agree reads loading why = search (rules, refused_does x y c r reads loading why, agree_read first x y s agree reads)

  -- one that was ready, but for which memory was refused
  pub unready_work : (first : Desk) (x y : Clerk D g) (s t : List Command × List Command) (c : Command) → Agree first x s → Reads x y → y.loading ≡ x.loading → is_halted y ≡ false → t ≡ s → Worked first x s c (Refused Memory) y t
  unready_work first x y s t c agree reads loading works same =
      subst (λ (l : List Command × List Command). Worked first x s c (Refused Memory) y l) (sym same)
      (refused_work first x y s c Memory agree reads loading (λ on. both_ways y.halted works on, reads.desk))

  -- the desk that is shown accepts what was made ready
  ready_accepted : (first : Desk) (x y : Clerk D g) (s : List Command × List Command) (c : Command) (r : Ready) → Agree first x s → Reads x y → IsReady y r → command_of r ≡ c → IsAcceptance (step (after first s.0) c).0
  ready_accepted first x y s c r agree reads ready is = search rules

  made_work : (first : Desk) (x y z : Clerk D g) (s u : List Command × List Command) (c : Command) (r : Ready) (reply : Reply) → Does x c reply z → Agree first x s → Reads x y → IsReady y r → command_of r ≡ c
      → IsMade y r reply z → s.1 ≡ s.0 → u ≡ (s.0 ++ c ∷ [], s.0 ++ c ∷ []) → Worked first x s c reply z u
  made_work first x y z s u c r reply does agree reads ready is made none grown =
      let next : desk_of z ≡ (step (after first s.0) c).1 = made.desk ∙ (ready.accepted.desk ∙ (ap (λ (q : Command). (step (desk_of y) q).1) is ∙ ap (λ (d : Desk). (step d c).1) (reads.desk ∙ agree.desk))) in
      let shown : u.0 ≡ s.0 ++ c ∷ [] = ap (λ p. p.0) grown in
      let whole : u.1 ≡ u.0 = ap (λ p. p.1) grown ∙ sym shown in
      let so_far : AreAccepted first s.0 = subst (λ (l : List Command). AreAccepted first l) none agree.accepted in
      let accepted : (IsAcceptance reply → ⊥) → ⊥ = λ other. other (subst IsAcceptance (sym made.reply_is) (acceptance_is (command_of r))) in
      record {
        does = does;
        agree = record {
          desk = next ∙ (sym (after_more first s.0 c) ∙ ap (λ l. after first l) (sym shown));
          none = λ off. whole;
          few = let same : length u.1 ≡ length u.0 = ap length whole in omega (arith, same);
          begins = subst (λ (l : List Command). IsPrefix u.0 l) (sym whole) (prefix_self u.0);
          accepted = subst (λ (p : List Command × List Command). AreAccepted first p.1) (sym grown) (accepted_more first s.0 c so_far (ready_accepted first x y s c r agree reads ready is));
        };
        joined = λ a. shown;
        same = λ other. absurd (accepted other);
        joins = record { accepted = λ a. (none, ready_accepted first x y s c r agree reads ready is, grown); other = λ other. absurd (accepted other) };
      }

  unmade_work : (first : Desk) (x y z : Clerk D g) (s u : List Command × List Command) (c : Command) (reply : Reply) → Does x c reply z → Agree first x s → Reads x y
      → IsNotMade y reply z → s.1 ≡ s.0 → IsAcceptance (step (after first s.0) c).0 → u ≡ (s.0, s.0 ++ c ∷ []) → Worked first x s c reply z u
  unmade_work first x y z s u c reply does agree reads fault none accepts waits =
      let still : u.0 ≡ s.0 = ap (λ p. p.0) waits in
      let so_far : AreAccepted first s.0 = subst (λ (l : List Command). AreAccepted first l) none agree.accepted in
      let refused : IsAcceptance reply → ⊥ = λ a. subst IsAcceptance fault.reply_is a in
      record {
        does = does;
        agree = record {
          desk = fault.desk ∙ (reads.desk ∙ (agree.desk ∙ ap (λ l. after first l) (sym still)));
          none = λ off. absurd (both_ways z.halted off fault.halted);
          few = let longer : length u.1 ≡ length s.0 + 1 = ap (λ p. length p.1) waits ∙ length-append s.0 (c ∷ []) in let same : length u.0 ≡ length s.0 = ap length still in omega (arith, longer, same);
          begins = subst (λ (p : List Command × List Command). IsPrefix p.0 p.1) (sym waits) (c ∷ [], refl);
          accepted = subst (λ (p : List Command × List Command). AreAccepted first p.1) (sym waits) (accepted_more first s.0 c so_far accepts);
        };
        joined = λ a. absurd (refused a);
        same = λ other. still;
        joins = record { accepted = λ a. absurd (refused a); other = λ other. inr (fault.reply_is, none, accepts, waits) };
      }

  -- one whose change was appended, and which was then committed or not
  pub settled_work : (first : Desk) (x y z : Clerk D g) (s t u : List Command × List Command) (c : Command) (r : Ready) (reply : Reply) → Agree first x s → Reads x y → y.loading ≡ x.loading → IsReady y r → command_of r ≡ c → (MustBeFull x c → ⊥) → is_halted y ≡ false
      → t ≡ (s.0, s.1 ++ command_of r ∷ []) → Commits y r reply z → (is_halted z ≡ false → u ≡ (t.1, t.1)) → (is_halted z ≡ true → u ≡ t) → Worked first x s c reply z u
  settled_work first x y z s t u c r reply agree reads loading ready is room works appended commits shown hidden =
      let does = committed_does x y z c r reply reads loading ready is room works commits in
      let none : s.1 ≡ s.0 = agree.none (was_working x y reads works) in
      let joined : s.1 ++ command_of r ∷ [] ≡ s.0 ++ c ∷ [] = ap (λ l. l ++ command_of r ∷ []) none ∙ ap (λ (q : Command). s.0 ++ q ∷ []) is in
      let all : t.1 ≡ s.0 ++ c ∷ [] = ap (λ p. p.1) appended ∙ joined in
      elim commits.outcome [
        | inl made ↦ made_work first x y z s u c r reply does agree reads ready is made none (shown made.works ∙ ap (λ (l : List Command). (l, l)) all)
        | inr fault ↦ unmade_work first x y z s u c reply does agree reads fault none (ready_accepted first x y s c r agree reads ready is) (hidden fault.halted ∙ (appended ∙ ap (λ (l : List Command). (s.0, l)) joined))
      ]

  -- what a command came to, with what is told then
  abbrev pub Came : Desk → Clerk D g → List Command × List Command → Command → Reply × List Command → Clerk D g → List Command × List Command → Type 0
  Came first x s c r y t = Worked first x s c r.0 y t × (r.1 ≡ t.0)

  pub came_as : (first : Desk) (x : Clerk D g) (s : List Command × List Command) (c : Command) (r q : Reply × List Command) (y z : Clerk D g) (t u : List Command × List Command) → r ≡ q → y ≡ z → t ≡ u → Came first x s c q z u → Came first x s c r y t
  came_as first x s c r q y z t u reply clerk shower came =
      subst (λ (a : Reply × List Command). Came first x s c a y t) (sym reply) (subst (λ (w : Clerk D g). Came first x s c q w t) (sym clerk) (subst (λ (l : List Command × List Command). Came first x s c q z l) (sym shower) came))

  pub is_clerk_of : (first : Desk) (x : Clerk D g) (s : List Command × List Command) (f : Kept D) → kept_of x s ≡ f → Agree first x s → IsClerk first f x
  is_clerk_of first x s f is agree = subst (λ (k : Kept D). IsClerk first k x) is (record { device = refl; halted = refl; sectors = refl; room = refl; free = refl; desk = agree.desk })

  pub shown_accepted : (first : Desk) (x : Clerk D g) (s : List Command × List Command) (f : Kept D) → kept_of x s ≡ f → Agree first x s → AreAccepted first f.shown
  shown_accepted first x s f is agree =
      subst (λ (k : Kept D). AreAccepted first k.shown) is (accepted_first first s.0 agree.begins.0 (subst (λ (l : List Command). AreAccepted first l) (sym agree.begins.1) agree.accepted))

  -- a step of a sweep
  pub agree_tended : (first : Desk) (was : Bool) (x : Clerk D g) (is : Bool) (y : Clerk D g) (s : List Command × List Command) → Agree first x s → Tends was x is y → Agree first y s
  agree_tended first was x is y s agree tends = record {
    desk = tends.desk ∙ agree.desk;
    none = λ off. agree.none (elim (cases_Bool x.halted) [
      | inl on ↦ absurd (both_ways y.halted off (tends.moves.still on).2)
      | inr works ↦ works
    ]);
    few = agree.few;
    begins = agree.begins;
    accepted = agree.accepted;
  }

  pub sweeps_of : (first : Desk) (was : Bool) (x : Clerk D g) (is : Bool) (y : Clerk D g) (s : List Command × List Command) (old : Kept D) (did : Result (Option ℕ) StoreError) → kept_of x s ≡ old → Agree first x s → Tends was x is y → StepMay was x did y
      → SweepsOn g first old did (kept_of y s)
  sweeps_of first was x is y s old did same agree tends may =
      let there = agree_tended first was x is y s agree tends in
      search is_clerk_of

  pub works_of : (first : Desk) (x y : Clerk D g) (s t : List Command × List Command) (old : Kept D) (c : Command) (reply : Reply) → kept_of x s ≡ old → Agree first x s → Worked first x s c reply y t → Works g first old c reply (kept_of y t)
  works_of first x y s t old c reply was agree worked = search is_clerk_of

  pub outcome_of : (first : Desk) (x y : Clerk D g) (s t : List Command × List Command) (c : Command) (reply : Reply) → Agree first x s → Worked first x s c reply y t → OutcomeMay (after first s.0) c reply (after first t.0)
  outcome_of first x y s t c reply agree worked =
      subst (λ (d : Desk). OutcomeMay d c reply (after first t.0)) agree.desk (subst (λ (e : Desk). OutcomeMay (desk_of x) c reply e) worked.agree.desk (is_halted y, may_be _ _ _ (desk_of x) c reply (desk_of y) worked.does.outcome))

  pub opens_shown : (first : Desk) (x : Clerk D g) (s : List Command × List Command) → Agree first x s → Keeps x → OpensShown g first (kept_of x s)
  opens_shown first x s agree keeps honest c leaves = subst (λ (d : Desk). IsLeft (is_halted x) (sectors_of x) d c) agree.desk (keeps.left honest c leaves)
