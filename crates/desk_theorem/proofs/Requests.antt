-- The requests of a life, one by one, and what is acknowledged of them: that outlives the life's stop.
use Rattle.{std.specs.Prelude.{⊤, fold, None}, desk_model.specs.{claim.{Desk.Desk, Outcome.{IsAcceptance, IsStep, RefusalMay, CommandMay}, Step.step}, declared.reply.Reply.Reply}}
use Rattle.std.proofs.Common.{◌≡◌, ◌⊎◌, ◌<◌, ℕ, Bool, true, false, if◌then◌else◌, List, [], ◌∷◌, ◌++◌, inl, inr, ⊎_elim, refl, sym, ap, subst, ◌∙◌, arith}
use Rattle.{desk_model.specs.declared.{command.Command.Command, reply.Refusal.Refusal}, desk_store_catalogue.specs.claim.Audits.AskMay}
use Rattle.{desk_store_pages.specs.declared.error.StoreError.StoreError, desk_theorem.specs.claim.Clauses.{made, acknowledges, acknowledged_in, HoldsAcknowledged}}
use Rattle.desk_theorem_lives.specs.{claim.{Calls.is_done, DeskLives.{loaded_desk, MayRefuse, IsUnloaded, IsUnswept, Failed, FailsAt, Lived}}, declared.desk_lives.Answer.Answer}
use Rattle.desk_theorem_lives.specs.declared.desk_lives.{Answer.TheVariants.{Said, Loaded, Unloaded, Swept, Unswept}, Request.{Request, TheVariants.{Change, Look, Load, Sweep}}}
use Rattle.desk_model.specs.declared.reply.Reply.TheVariants as reply
use Rattle.desk_model.specs.declared.reply.Refusal.TheVariants as refusal
use Rattle.desk_store_pages.specs.declared.error.StoreError.TheVariants as store
use Rattle.desk_theorem_lives.proofs.desk_theorem_runs.Steps.{refused_same}

-- ---- what a command leaves, by its reply
refused_step : (d : Desk) (c : Command) (r : Refusal) (next : Desk) → IsStep ⊥ d c (reply.Refused r) next → next ≡ d
refused_step d c r next is = is.desk ∙ refused_same d c (λ accepted. subst IsAcceptance (sym is.reply) accepted)

refused_stays : (d : Desk) (c : Command) (r : Refusal) (next : Desk) → RefusalMay ⊥ ⊤ ⊥ d c r next → next ≡ d
refused_stays d c refusal.Memory next is = is.1
refused_stays d c refusal.Halted next is = absurd is.0
refused_stays d c refusal.Full next is = is.1.desk
refused_stays d c refusal.BadCompanion next is = absurd is
refused_stays d c r next is = refused_step d c r next is.1

-- the desk after a command is that after it, where it was done, and else the same
left_by : (d : Desk) (c : Command) (r : Reply) (next : Desk) → CommandMay ⊥ ⊤ ⊥ d c r next → next ≡ (if is_done r then (step d c).1 else d)
left_by d c (reply.Refused r) next is = refused_stays d c r next is
left_by d c (reply.Created name revisions) next is = is.1.desk
left_by d c (reply.Retired name) next is = is.1.desk
left_by d c _ next is = absurd is

-- ---- one request before others
-- a request may be answered so where the device has failed
abbrev pub Idle : Desk → Request → Answer → Type 0
Idle d (Change c) a = a ≡ Said (reply.Refused refusal.Halted)
Idle d (Look q) a = (r : Reply) × (a ≡ Said r) × AskMay d q r
Idle d (Load g) a = IsUnloaded a d
Idle d Sweep a = IsUnswept a

-- and so where it has not, and leaves this desk
abbrev pub Went : Desk → Request → Answer → Desk → Type 0
Went d (Change c) a next = (r : Reply) × (a ≡ Said r) × CommandMay ⊥ ⊤ ⊥ d c r next
Went d (Look q) a next = (next ≡ d) × Idle d (Look q) a
Went d (Load g) a next = ((a ≡ Loaded) × (d.geography ≡ None) × (next ≡ loaded_desk g.value))
    ⊎ ((next ≡ d) × (why : StoreError) × (a ≡ Unloaded why) × MayRefuse why d)
Went d Sweep a next = (next ≡ d) × (((count : ℕ) × (a ≡ Swept count)) ⊎ (a ≡ Unswept store.Memory))

-- where the device has failed
pub failed_of : (d : Desk) (q : Request) (asked : List Request) (a : Answer) (told : List Answer) → Idle d q a → Failed d asked told → Failed d (q ∷ asked) (a ∷ told)
failed_of d (Look q) asked a told is rest = (is.0, is.1, is.2, rest)
failed_of d _ asked a told is rest = (is, rest)

pub rest_of : (d : Desk) (q : Request) (asked : List Request) (a : Answer) (told : List Answer) → Failed d (q ∷ asked) (a ∷ told) → Idle d q a × Failed d asked told
rest_of d (Look q) asked a told is = ((is.0, is.1, is.2), is.3)
rest_of d _ asked a told is = is

none_failed : (d : Desk) (q : Request) (asked : List Request) → Failed d (q ∷ asked) [] → ⊥
none_failed d (Change c) asked is = is
none_failed d _ asked is = is

module _ (t u : ℕ) where
  -- the next request of a life is answered, or the device fails in it
  abbrev Turn : Desk → Request → List Request → Answer → List Answer → Desk → Type 0
  Turn d q asked a told e = ((next : Desk) × Went d q a next × Lived t u next asked told e) ⊎ ((t < u) × Idle d q a × FailsAt d (made d q) asked told e)

  pub turn_of : (d : Desk) (q : Request) (asked : List Request) (a : Answer) (told : List Answer) (e : Desk) → Lived t u d (q ∷ asked) (a ∷ told) e → Turn d q asked a told e
  turn_of d (Change c) asked a told e (inl is) = inl (is.1, (is.0, is.2, is.3), is.4)
  turn_of d (Change c) asked a told e (inr is) = inr is
  turn_of d (Look q) asked a told e is = inl (d, (refl, (is.0, is.1, is.2)), is.3)
  turn_of d (Load g) asked a told e (inl is) = inl (loaded_desk g.value, inl (is.0, is.1, refl), is.2)
  turn_of d (Load g) asked a told e (inr (inl is)) = inl (d, inr (refl, is.0, is.1, is.2), is.3)
  turn_of d (Load g) asked a told e (inr (inr is)) = inr is
  turn_of d Sweep asked a told e (inl is) = inl (d, (refl, inl (is.0, is.1)), is.2)
  turn_of d Sweep asked a told e (inr (inl is)) = inl (d, (refl, inr is.0), is.1)
  turn_of d Sweep asked a told e (inr (inr is)) = inr is

  pub none_lived : (d : Desk) (q : Request) (asked : List Request) (e : Desk) → Lived t u d (q ∷ asked) [] e → ⊥
  none_lived d (Change c) asked e is = is
  none_lived d _ asked e is = is

  pub went_on : (d next : Desk) (q : Request) (asked : List Request) (a : Answer) (told : List Answer) (e : Desk) → Went d q a next → Lived t u next asked told e → Lived t u d (q ∷ asked) (a ∷ told) e
  went_on d next (Change c) asked a told e is rest = inl (is.0, next, is.1, is.2, rest)
  went_on d next (Look q) asked a told e is rest = (is.1.0, is.1.1, is.1.2, rw is.0 at rest)
  went_on d next (Load g) asked a told e (inl is) rest = inl (is.0, is.1, rw is.2 at rest)
  went_on d next (Load g) asked a told e (inr is) rest = inr (inl (is.1, is.2, is.3, rw is.0 at rest))
  went_on d next Sweep asked a told e is rest =
      ⊎_elim (λ swept. inl (swept.0, swept.1, rw is.0 at rest)) (λ refused. inr (inl (refused, rw is.0 at rest))) is.1

  -- only a query is answered as ever where the device fails
  pub fails_in : (d : Desk) (q : Request) (asked : List Request) (a : Answer) (told : List Answer) (e : Desk) → t < u → Idle d q a → FailsAt d (made d q) asked told e
      → (e ≡ d → Lived t u d asked told e) → Lived t u d (q ∷ asked) (a ∷ told) e
  fails_in d (Change c) asked a told e rose is fails lives = inr (rose, is, fails)
  fails_in d (Look q) asked a told e rose is fails lives = (is.0, is.1, is.2, lives (⊎_elim (λ same. same) (λ same. same) fails.1))
  fails_in d _ asked a told e rose is fails lives = inr (inr (rose, is, fails))

  -- the device fails between two requests
  pub failed_lives : (d : Desk) (asked : List Request) (told : List Answer) (e : Desk) → t < u → Failed d asked told → e ≡ d → Lived t u d asked told e
  failed_lives d [] [] e rose is same = same
  failed_lives d [] (a ∷ told) e rose is same = absurd is
  failed_lives d (q ∷ asked) [] e rose is same = absurd (none_failed d q asked is)
  failed_lives d (q ∷ asked) (a ∷ told) e rose is same =
      let f = rest_of d q asked a told is in
      fails_in d q asked a told e rose f.0 (f.1, inl same) (λ _. failed_lives d asked told e rose f.1 same)

-- ---- the desk of which the next request is asked
abbrev pub Next : Desk → Request → Answer → Desk
Next d q a = if acknowledges q a then made d q else d

pub next_is : (d : Desk) (q : Request) (a : Answer) (next : Desk) → Went d q a next → next ≡ Next d q a
next_is d (Change c) a next is = rw is.1 (left_by d c is.0 next is.2)
next_is d (Load g) a next (inl is) = rw (is.0, is.1) is.2
next_is d (Load g) a next (inr is) = rw is.2 is.0
next_is d _ a next is = is.0

pub idle_is : (d : Desk) (q : Request) (a : Answer) → Idle d q a → Next d q a ≡ d
idle_is d (Change c) a is = rw is refl
idle_is d (Load g) (Unloaded why) is = refl
idle_is d (Load g) _ is = absurd is
idle_is d _ a is = refl

made_first : (b : Bool) (d : Desk) (q : Request) (more : List Request) → fold made d ((if b then q ∷ [] else []) ++ more) ≡ fold made (if b then made d q else d) more
made_first true d q more = refl
made_first false d q more = refl

-- where the device has failed nothing more is done
failed_stays : (d : Desk) (asked : List Request) (told : List Answer) → Failed d asked told → fold made d (acknowledged_in asked told) ≡ d
failed_stays d [] told is = refl
failed_stays d (q ∷ asked) [] is = refl
failed_stays d (q ∷ asked) (a ∷ told) is =
    let f = rest_of d q asked a told is in
    made_first (acknowledges q a) d q (acknowledged_in asked told)
    ∙ ((λ i. fold made (idle_is d q a f.0 i) (acknowledged_in asked told)) ∙ failed_stays d asked told f.1)

-- a request is not acknowledged where the device has failed
idle_not : (d : Desk) (q : Request) (a : Answer) → Idle d q a → acknowledges q a ≡ false
idle_not d (Change c) a is = rw is refl
idle_not d (Load g) (Unloaded why) is = refl
idle_not d (Load g) _ is = absurd is
idle_not d _ a is = refl

idle_first : (d : Desk) (q : Request) (a : Answer) (asked : List Request) (told : List Answer) → Idle d q a → acknowledged_in (q ∷ asked) (a ∷ told) ≡ acknowledged_in asked told
idle_first d q a asked told is = (λ i. (if idle_not d q a is i then q ∷ [] else []) ++ acknowledged_in asked told)

-- nor is anything acknowledged
failed_none : (d : Desk) (asked : List Request) (told : List Answer) → Failed d asked told → acknowledged_in asked told ≡ []
failed_none d [] told is = refl
failed_none d (q ∷ asked) [] is = refl
failed_none d (q ∷ asked) (a ∷ told) is =
    let f = rest_of d q asked a told is in
    idle_first d q a asked told f.0 ∙ failed_none d asked told f.1

module _ (t u : ℕ) where
  goes_on : (d next : Desk) (q : Request) (asked : List Request) (a : Answer) (told : List Answer) (e : Desk) → next ≡ Next d q a
      → HoldsAcknowledged t u next asked told e → HoldsAcknowledged t u d (q ∷ asked) (a ∷ told) e
  goes_on d next q asked a told e is (inl left) =
      inl (left ∙ ap (λ (x : Desk). fold made x (acknowledged_in asked told)) is ∙ sym (made_first (acknowledges q a) d q (acknowledged_in asked told)))
  goes_on d next q asked a told e is (inr holds) =
      let same = ap (λ (x : Desk). fold made x (acknowledged_in holds.before holds.told_before)) is ∙ sym (made_first (acknowledges q a) d q (acknowledged_in holds.before holds.told_before)) in
      inr (record {
        failed = holds.failed;
        before = q ∷ holds.before;
        told_before = a ∷ holds.told_before;
        q = holds.q;
        a = holds.a;
        later = holds.later;
        told_later = holds.told_later;
        asked_are = λ i. q ∷ holds.asked_are i;
        told_are = λ i. a ∷ holds.told_are i;
        many = omega (arith, holds.many);
        unacknowledged = holds.unacknowledged;
        none_later = holds.none_later;
        left = holds.left ∙ (λ i. made (same i) holds.q);
      })

  pub lasts : (d : Desk) (asked : List Request) (told : List Answer) (e : Desk) → Lived t u d asked told e → HoldsAcknowledged t u d asked told e
  lasts d [] [] e is = inl is
  lasts d [] (a ∷ told) e is = absurd is
  lasts d (q ∷ asked) [] e is = absurd (none_lived t u d q asked e is)
  lasts d (q ∷ asked) (a ∷ told) e is = ⊎_elim
      (λ went. goes_on d went.0 q asked a told e (next_is d q a went.0 went.1) (lasts went.0 asked told e went.2))
      (λ fails.
      (let stays = failed_stays d (q ∷ asked) (a ∷ told) (failed_of d q asked a told fails.1 fails.2.0) in
      ⊎_elim (λ left. inl (left ∙ sym stays)) (λ left. inr (record {
        failed = fails.0;
        before = [];
        told_before = [];
        q = q;
        a = a;
        later = asked;
        told_later = told;
        asked_are = refl;
        told_are = refl;
        many = refl;
        unacknowledged = idle_not d q a fails.1;
        none_later = failed_none d asked told fails.2.0;
        left = left;
      })) fails.2.1))
      (turn_of t u d q asked a told e is)
