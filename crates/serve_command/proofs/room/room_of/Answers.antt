use Rattle.{std.proofs.Common.{◌∙◌, ap}, serve_command.specs.Rooms.capped}
use Rattle.serve_command.proofs.room.room_of.Goals as goal

pub returns-in-Ok : goal.returns-in-Ok
returns-in-Ok g c =
    let held = c.in-Ok.ensures.held in
    record { free = held.free; counties = c.in-Ok.held.counties; needs = λ command is. c.capped.ensures ∙ ap capped (held.revision command is).pages }
