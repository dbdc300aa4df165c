use Rattle.std.proofs.Common.{rules}
use Rattle.talk_command.proofs.talk.clerk_in.Goals as goal

pub returns-in-Ok : goal.returns-in-Ok
returns-in-Ok c = record { keeps = search rules; desk = search rules; working = search rules; size = search rules; journal = c.in-Ok.ensures.journal tt }
