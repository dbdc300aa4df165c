-- What a step tells, and the catalogues that are kept.
use Rattle.std.specs.Prelude.{◌≡◌, ◌≢◌, ℕ, ◌<◌, ◌≤◌, List, [], ◌∷◌, length, Option, Some, None, ⊤}
use Rattle.desk_model.specs.{claim.{Desk.Desk, Step.step}, declared.{command.{Command.Command, Query.Query}, reply.{Refusal.TheVariants.Memory, Reply.Reply}}}
use Rattle.{desk_store_catalogue.specs.claim.{Accepting.acceptance, Audits.AskMay}, desk_theorem.specs.{claim.World.{World, move, shown_list}, declared.event.Event.Event}}
use Rattle.desk_theorem.specs.declared.{event.Event.TheVariants.{Commit, Acknowledge, Show, Visit, Learn, Stop}, world.WorldChange.WorldChange}
use Rattle.http_desk.specs.seats.desk_gallery.claim.After.{after}
use Rattle.desk_model.specs.declared.reply.Reply.TheVariants as reply

-- each change's catalogue is the desk after its command, from this desk on
abbrev pub Follow : Desk → List WorldChange → Type 0
Follow d [] = ⊤
Follow d (c ∷ cs) = (c.catalogue.value ≡ (step d c.command).1) × Follow c.catalogue.value cs

-- the event's move, of which nothing is told
abbrev pub Moves : Desk → World → Event → Option Reply → World → Type 0
Moves d w e told new = (told ≡ None) × (new ≡ move d w e)

-- a commit is told nothing; or memory was refused to one that may be possible, and nothing is changed
abbrev pub CommitMay : Desk → World → Command → Option Reply → World → Type 0
CommitMay d w c None new = new ≡ move d w (Commit c)
CommitMay d w c (Some r) new = (r ≡ reply.Refused Memory) × (w.shown ≡ length w.changes) × (new ≡ w)

-- a commit is possible, and this is the desk after it
pub record IsChanged (d : Desk) (w : World) (c : Command) (new : Desk) : Type 0 where
  pub shown : w.shown ≡ length w.changes
  pub accepted : (step (after d w.changes) c).0 ≡ acceptance c
  pub desk : new ≡ (step (after d w.changes) c).1

-- a visitor who isn't there is told nothing; one who is, what the desk after the shown changes answers, and knows them then,
-- unless memory was refused
abbrev pub VisitMay : Desk → World → ℕ → Query → Option Reply → World → Type 0
VisitMay d w i q None new = (length w.views ≤ i) × (new ≡ w)
VisitMay d w i q (Some r) new = (i < length w.views) × AskMay (after d (shown_list w)) q r
    × ((r ≡ reply.Refused Memory) → new ≡ w) × ((r ≢ reply.Refused Memory) → new ≡ move d w (Visit i q))

-- what a step may tell, and the world after it
abbrev pub StepMay : Desk → World → Event → Option Reply → World → Type 0
StepMay d w (Commit c) told new = CommitMay d w c told new
StepMay d w Acknowledge told new = Moves d w Acknowledge told new
StepMay d w Show told new = Moves d w Show told new
StepMay d w (Visit i q) told new = VisitMay d w i q told new
StepMay d w (Learn i known) told new = Moves d w (Learn i known) told new
StepMay d w (Stop kept) told new = Moves d w (Stop kept) told new
