-- Commands with their replies, as requests of a life.
use Rattle.std.specs.Prelude.{Bool, true, false, if◌then◌else◌, List, [], ◌∷◌, ◌++◌}
use Rattle.{desk_model.specs.declared.{command.Command.Command, reply.Reply.Reply}, desk_theorem_lives.specs.declared.desk_lives.Answer.{Answer, TheVariants.Said}}
use Rattle.desk_theorem_lives.specs.declared.desk_lives.Request.{Request, TheVariants.Change}
use Rattle.desk_model.specs.declared.reply.Reply.TheVariants as reply

-- the commands as requests, and their replies as answers
abbrev pub asked_in : List (Command × Reply) → List Request
asked_in [] = []
asked_in (call ∷ calls) = Change call.0 ∷ asked_in calls

abbrev pub told_in : List (Command × Reply) → List Answer
told_in [] = []
told_in (call ∷ calls) = Said call.1 ∷ told_in calls

-- the reply acknowledges that a command was done
abbrev pub is_done : Reply → Bool
is_done (reply.Created name revisions) = true
is_done (reply.Retired name) = true
is_done (reply.Plans rows) = false
is_done (reply.Blocks text) = false
is_done (reply.Baf text) = false
is_done (reply.Audited text) = false
is_done (reply.Refused refusal) = false

-- the commands that were acknowledged
abbrev pub acknowledged : List (Command × Reply) → List Command
acknowledged [] = []
acknowledged (call ∷ calls) = (if is_done call.1 then call.0 ∷ [] else []) ++ acknowledged calls
