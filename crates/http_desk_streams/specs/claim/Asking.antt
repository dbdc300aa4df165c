-- Which commands the bytes of a stream ask for.
use Rattle.std.specs.{Io.KnownBytes.Consumes, Prelude.{◌≡◌, ℕ, List, [], ◌++◌, Option}}
use Rattle.{desk_model.specs.declared.command.Command.Command, http_desk_routes.specs.claim.Orders.order_of, http_wire.specs.claim.Prefix.HasRequest}
use Rattle.httparse.specs.Grammar.{RequestHead}
use Rattle.http_desk_routes.specs.declared.order.Order.TheVariants as order

-- Whole requests stand at the start of the input, one after the other, and one of them asks for the command
pub data Asks : List ℕ → Command → Type 0 where
  here : (input : List ℕ) (h : RequestHead) (target body rest : List ℕ) (c : Command) → HasRequest input h target body rest
      → order_of h.method target body ≡ order.Command c → Asks input c
  later : (input : List ℕ) (h : RequestHead) (target body rest : List ℕ) (c : Command) → HasRequest input h target body rest
      → Asks rest c → Asks input c

-- so do these bytes with some that the reader gives after them
abbrev pub IsAskedAfter : (came : List ℕ) → (unread : Option (List ℕ)) → Command → Type 0
IsAskedAfter came unread c = (left : Option (List ℕ)) × (more : List ℕ) × Consumes unread left more × Asks (came ++ more) c

-- so do some that the reader gives
abbrev pub IsAskedIn : (unread : Option (List ℕ)) → Command → Type 0
IsAskedIn unread c = IsAskedAfter [] unread c
