-- What was shown in an office's life is the first of what was acknowledged in it.
use Rattle.std.proofs.{Common.{◌≡◌, ℕ, Bool, true, false, if◌then◌else◌, List, [], ◌∷◌, ◌++◌, map, All, refl, sym, ap, ◌∙◌}, lemmas.List.{map-append, Elements.All-weaker}}
use Rattle.{desk_model.specs.{claim.Desk.Desk, declared.{command.Command.Command, reply.Reply.Reply}}, desk_theorem.specs.claim.Offices.Answered}
use Rattle.{desk_theorem.specs.claim.Clauses.{acknowledged_in, of_calls, ShowsAcknowledged}, desk_theorem_lives.specs.claim.Calls.{asked_in, told_in, is_done, acknowledged}}
use Rattle.{desk_theorem_lives.specs.declared.desk_lives.Request.TheVariants.Change, http_desk.specs.{connections.declared.ran.Ran.Ran, seats.claim.Streams.{Traffic, Worker}}}
use mathlib.Core.List.{IsPrefix}

abbrev Call : Type 0
Call = Command × Reply

-- the commands that were acknowledged, among those that were asked for
all_changes : (calls : List Call) → acknowledged_in (asked_in calls) (told_in calls) ≡ map (λ (c : Command). Change c) (acknowledged calls)
all_changes [] = refl
all_changes (call ∷ calls) = by (is_done call.1) (all_changes calls) where
  by : (b : Bool) → acknowledged_in (asked_in calls) (told_in calls) ≡ map (λ (c : Command). Change c) (acknowledged calls)
      → (if b then Change call.0 ∷ [] else []) ++ acknowledged_in (asked_in calls) (told_in calls) ≡ map (λ (c : Command). Change c) ((if b then call.0 ∷ [] else []) ++ acknowledged calls)
  by true is = ap (λ l. Change call.0 ∷ l) is
  by false is = is

begins_as : (calls : List Call) (shown : List Command) → IsPrefix shown (acknowledged calls) → IsPrefix (map (λ (c : Command). Change c) shown) (acknowledged_in (asked_in calls) (told_in calls))
begins_as calls shown begins = (
  map (λ (c : Command). Change c) begins.0,
  sym (map-append (λ (c : Command). Change c) shown begins.0) ∙ ap (λ (l : List Command). map (λ (c : Command). Change c) l) begins.1 ∙ sym (all_changes calls),
)

module _ {P Q : Type 0} (streams : Traffic P Q) (workers : ℕ) where
  pub shows_acknowledged : (t u : ℕ) (d : Desk) (ran : Ran) (e : Desk) (is : Answered streams workers t u d ran e) → All (λ w. ShowsAcknowledged (of_calls is.did.calls is.counted.workers) w) is.counted.workers
  shows_acknowledged t u d ran e is =
      All-weaker (λ (w : Worker). IsPrefix w.guest.heard (acknowledged is.did.calls)) (λ (w : Worker). ShowsAcknowledged (of_calls is.did.calls is.counted.workers) w)
      (λ w begins. begins_as is.did.calls w.guest.heard begins) is.counted.workers is.counted.shown
