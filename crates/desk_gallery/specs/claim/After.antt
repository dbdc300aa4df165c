-- The desk after a list of commands.
use Rattle.{std.specs.Prelude.{List, fold}, desk_model.specs.{claim.{Desk.Desk, Step.step}, declared.command.Command.Command}}

abbrev pub after : Desk → List Command → Desk
after d commands = fold (λ d c. (step d c).1) d commands
