-- What is heard of the commands of a stream.
use Rattle.{std.proofs.Common.{◌≡◌, Bool, Option, None, inl, inr, refl}, desk_model.specs.declared.{command.{Command.Command, Query.Query}, reply.Reply.Reply}}
use Rattle.http_desk_streams.specs.{Accepting.{deed_where, heard_of}, Hearing.IsNoted, declared.accepted.Accepted.Accepted}

module _ {X : Type 0} (commands : X → Command → Reply → X → Type 0) (asks : X → Query → Reply → X → Type 0) (listening : Bool) where
  pub none_noted : (x : X) (noted : Option Accepted) → noted ≡ None → IsNoted commands asks listening x noted x
  none_noted x noted is = inl (is, inl refl)

  pub query_noted : (x : X) (q : Query) (r : Reply) (y : X) (noted : Option Accepted) → noted ≡ None → asks x q r y → IsNoted commands asks listening x noted y
  query_noted x q r y noted is told = inl (is, inr (q, r, told))

  pub command_noted : (x : X) (c : Command) (r : Reply) (y : X) (noted : Option Accepted) → commands x c r y → noted ≡ heard_of (deed_where listening c) r
      → IsNoted commands asks listening x noted y
  command_noted x c r y noted does is = inr (c, r, does, is)
