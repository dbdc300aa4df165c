-- What is heard of the commands of a stream.
use Rattle.std.specs.Prelude.{◌≡◌, ◌⊎◌, Bool, Option, None}
use Rattle.{desk_model.specs.declared.{command.{Command.Command, Query.Query}, reply.Reply.Reply}, http_desk_streams.specs.Accepting.{deed_where, heard_of}}
use Rattle.http_desk_streams.specs.declared.accepted.Accepted.{Accepted}

-- generic in what answers, and in whether somebody listens
module _ {X : Type 0} (commands : X → Command → Reply → X → Type 0) (asks : X → Query → Reply → X → Type 0) (listening : Bool) where
  -- no command was done, and nothing is noted; or one was, and where it was accepted and somebody listens it is noted what it did
  abbrev pub IsNoted : X → Option Accepted → X → Type 0
  IsNoted x noted y = ((noted ≡ None) × ((y ≡ x) ⊎ ((q : Query) × (r : Reply) × asks x q r y))) ⊎ ((c : Command) × (r : Reply) × commands x c r y × (noted ≡ heard_of (deed_where listening c) r))
