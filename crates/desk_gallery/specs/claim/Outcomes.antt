-- The outcome of a command, whatever the room was and whatever the device did.
use Rattle.std.specs.Prelude.{◌≡◌, Bool, true, ⊤}
use Rattle.desk_model.specs.{claim.{Desk.Desk, Outcome.CommandMay}, declared.{command.Command.Command, reply.Reply.Reply}}

-- a command may have this reply, and leave this desk, where the device has failed or where it hasn't
abbrev pub OutcomeMay : Desk → Command → Reply → Desk → Type 0
OutcomeMay d c r new = (failed : Bool) × CommandMay ⊥ ⊤ (failed ≡ true) d c r new
