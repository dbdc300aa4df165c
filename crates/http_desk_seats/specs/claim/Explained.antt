-- What a call at a seat may answer, by a list of changes between what the seat heard of before and what it heard of after, and what it
-- counts there.
use Rattle.std.specs.Prelude.{◌≡◌, ◌+◌, List, [], ◌∷◌, ◌++◌}
use Rattle.{desk_gallery.specs.claim.{After.after, Outcomes.OutcomeMay, Telling.{accepted_in, halted_in}}, desk_model.specs.claim.{Desk.Desk, Outcome.IsAcceptance}}
use Rattle.{desk_model.specs.declared.{command.{Command.Command, Query.Query}, reply.Reply.Reply}, desk_store_catalogue.specs.claim.Audits.AskMay}
use Rattle.http_desk_seats.specs.claim.Seated.{Seated}
use mathlib.Core.List.{IsPrefix}

-- The answer is that after a list that begins with all that was heard of before, and all of it is heard of then. No command is done.
pub record ExplainsQuery (first : Desk) (before : Seated) (q : Query) (r : Reply) (after_it : Seated) : Type 0 where
  pub later : IsPrefix before.heard after_it.heard
  pub answer : AskMay (after first after_it.heard) q r
  pub accepted : after_it.accepted ≡ before.accepted
  pub halted : after_it.halted ≡ before.halted

-- The outcome is that after a list that begins with all that was heard of before. All of it is heard of then, and an accepted
-- command after it; no other command joins anything. It is done once: it counts as what it is told as.
pub record ExplainsCommand (first : Desk) (before : Seated) (c : Command) (r : Reply) (after_it : Seated) : Type 0 where
  pub list : List Command
  pub later : IsPrefix before.heard list
  pub outcome : OutcomeMay (after first list) c r (after first after_it.heard)
  pub joined : IsAcceptance r → after_it.heard ≡ list ++ c ∷ []
  pub same : (IsAcceptance r → ⊥) → after_it.heard ≡ list
  pub accepted : after_it.accepted ≡ before.accepted + accepted_in r
  pub halted : after_it.halted ≡ before.halted + halted_in r
