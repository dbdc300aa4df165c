-- What no promise rests on, beside claim/Asking.antt.
use Rattle.{std.specs.Prelude.{ℕ, List, Option}, desk_model.specs.declared.command.Command.Command, http_desk_streams.specs.claim.Asking.IsAskedAfter}

-- each command that is asked for so is taken, whatever was taken before it
abbrev pub TakesAll : {X : Type 0} → (takes : X → Command → Type 0) → (came : List ℕ) → (unread : Option (List ℕ)) → Type 0
TakesAll {X} takes came unread = (x : X) (c : Command) → IsAskedAfter came unread c → takes x c
