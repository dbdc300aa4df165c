-- A change of a desk, as it is shown.
use Rattle.desk_model.specs.{claim.Desk.Desk, declared.command.Command.Command}

-- a command with the desk after it
pub record Made : Type 0 where
  pub command : Command
  pub after : Desk
