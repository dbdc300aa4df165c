-- What the replies to commands count.
use Rattle.std.specs.Prelude.{ℕ, ◌+◌, List, [], ◌∷◌}
use Rattle.desk_model.specs.declared.{command.Command.Command, reply.{Refusal.Refusal, Reply.Reply}}
use Rattle.desk_model.specs.declared.reply.Reply.TheVariants as reply
use Rattle.desk_model.specs.declared.reply.Refusal.TheVariants as refusal

-- 1 where it tells of an accepted command
abbrev pub accepted_in : Reply → ℕ
accepted_in (reply.Created name revisions) = 1
accepted_in (reply.Retired name) = 1
accepted_in (reply.Plans rows) = 0
accepted_in (reply.Blocks text) = 0
accepted_in (reply.Baf text) = 0
accepted_in (reply.Audited text) = 0
accepted_in (reply.Refused why) = 0

abbrev pub halted_by : Refusal → ℕ
halted_by refusal.NoPlan = 0
halted_by refusal.NoRevision = 0
halted_by refusal.PlanExists = 0
halted_by (refusal.Stale k) = 0
halted_by (refusal.BadBody code line) = 0
halted_by (refusal.NotWholeCounty county) = 0
halted_by refusal.BadCompanion = 0
halted_by refusal.Limit = 0
halted_by refusal.Full = 0
halted_by refusal.Memory = 0
halted_by refusal.Halted = 1
halted_by refusal.NotSealed = 0

-- 1 where it tells of a fault, in the command or before
abbrev pub halted_in : Reply → ℕ
halted_in (reply.Created name revisions) = 0
halted_in (reply.Retired name) = 0
halted_in (reply.Plans rows) = 0
halted_in (reply.Blocks text) = 0
halted_in (reply.Baf text) = 0
halted_in (reply.Audited text) = 0
halted_in (reply.Refused why) = halted_by why

-- how many commands were told as halted
abbrev pub halts_of : List (Command × Reply) → ℕ
halts_of [] = 0
halts_of (call ∷ calls) = halted_in call.1 + halts_of calls
