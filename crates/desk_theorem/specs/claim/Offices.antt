-- A life of a store that an office serves to many streams, as those see it who wrote and read these.
use Rattle.std.specs.Prelude.{◌≡◌, ℕ, All, List, [], length}
use Rattle.{desk_model.specs.{claim.Desk.Desk, declared.{command.Command.Command, reply.Reply.Reply}}, desk_theorem_lives.specs.claim.Calls.{asked_in, told_in, acknowledged}}
use Rattle.{desk_theorem_lives.specs.claim.DeskLives.Lived, http_desk.specs.{connections.declared.ran.Ran.Ran, seats.claim.Streams.{Traffic, IsAskedOf, AreCounted}}}
use Rattle.http_desk.specs.seats.desk_gallery.claim.{Telling.halts_of, Working.AreAccepted}

module _ {R W : Type 0} (s : Traffic R W) (workers : ℕ) where
  -- In one life commands were done one after the other from the desk d on, each of which one of the streams asked for; what a stop after
  -- them leaves is the desk e. The acknowledged ones are each accepted after those before it.
  pub record Officed (t u : ℕ) (d : Desk) (e : Desk) : Type 0 where
    pub calls : List (Command × Reply)
    pub asked : All (λ (call : Command × Reply). IsAskedOf s call.0) calls
    pub accepted : AreAccepted d (acknowledged calls)
    pub lived : Lived t u d (asked_in calls) (told_in calls) e

  -- Along those that were acknowledged, streams were served at the seats of so many visitors, who had heard of nothing, and came to this.
  -- Each that was acknowledged was answered once, as accepted; so many were answered as halted as were told so.
  pub record Answered (t u : ℕ) (d : Desk) (ran : Ran) (e : Desk) : Type 0 where
    pub did : Officed t u d e
    pub visitors : List (List Command)
    pub many : length visitors ≡ workers
    pub fresh : All (λ (v : List Command). v ≡ []) visitors
    pub counted : AreCounted s d (acknowledged did.calls) (halts_of did.calls) visitors ran
