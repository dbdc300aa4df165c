-- A seat as calls at it leave it.
use Rattle.{std.specs.Prelude.{ℕ, List}, desk_model.specs.declared.command.Command.Command}

-- the changes that it heard of, and how many of its commands were told as accepted and how many as halted
pub record Seated : Type 0 where
  pub heard : List Command
  pub accepted : ℕ
  pub halted : ℕ

-- who has heard of this and asked for nothing
abbrev pub newcomer : List Command → Seated
newcomer v = record { heard = v; accepted = 0; halted = 0 }
