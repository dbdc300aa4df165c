-- A clerk beside a writer, before they are put behind a lock.
use Rattle.std.specs.Prelude.{List, [], ◌∷◌, ⊤}
use Rattle.desk_model.specs.{claim.{Desk.Desk, Outcome.IsAcceptance, Step.step}, declared.command.Command.Command}

-- each of the commands is accepted, one after the other
abbrev pub AreAccepted : Desk → List Command → Type 0
AreAccepted d [] = ⊤
AreAccepted d (c ∷ commands) = IsAcceptance (step d c).0 × AreAccepted (step d c).1 commands
