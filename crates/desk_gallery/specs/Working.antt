-- What no promise rests on, beside claim/Working.antt.
use Rattle.std.specs.Prelude.{◌≡◌, ◌⊎◌, ◌≤◌, ◌+◌, false, List, [], ◌∷◌, ◌++◌, length}
use Rattle.{desk_gallery.specs.claim.{After.after, Working.AreAccepted}, desk_model.specs.{claim.{Desk.Desk, Outcome.IsAcceptance, Step.step}, declared.command.Command.Command}}
use Rattle.{desk_model.specs.declared.reply.{Refusal.TheVariants.Halted, Reply.{Reply, TheVariants.Refused}}, desk_theorem_runs.specs.desk_store.claim.Clerks.{desk_of, is_halted}}
use Rattle.{desk_theorem_runs.specs.desk_store.{claim.Commands.Does, declared.clerk.Clerk.Clerk}, sector_device.specs.declared.SectorDevice.Ghosts}
use mathlib.Core.List.{IsPrefix}

-- a desk after commands from this one on, each accepted after those before it
abbrev pub IsRunFrom : Desk → Desk → Type 0
IsRunFrom first d = (commands : List Command) × AreAccepted first commands × (d ≡ after first commands)

-- What a command does to what is shown, and to that with what is pending after it. One that is accepted is joined to both, where
-- nothing was pending. One that the desk accepts, but whose commit met a fault, is pending then. No other does anything.
pub record Joins (first : Desk) (old : List Command × List Command) (c : Command) (reply : Reply) (new : List Command × List Command) : Type 0 where
  pub accepted : IsAcceptance reply → (old.1 ≡ old.0) × IsAcceptance (step (after first old.0) c).0 × (new ≡ (old.0 ++ c ∷ [], old.0 ++ c ∷ []))
  pub other : (IsAcceptance reply → ⊥) → (new ≡ old)
      ⊎ ((reply ≡ Refused Halted) × (old.1 ≡ old.0) × IsAcceptance (step (after first old.0) c).0 × (new ≡ (old.0, old.0 ++ c ∷ [])))

module _ {D : Type 0} {g : Ghosts D} where
  -- the desk that is kept is the one that is shown, and only after a halt a change is pending, one at most
  pub record Agree (first : Desk) (x : Clerk D g) (lists : List Command × List Command) : Type 0 where
    pub desk : desk_of x ≡ after first lists.0
    pub none : is_halted x ≡ false → lists.1 ≡ lists.0
    pub few : length lists.1 ≤ length lists.0 + 1
    pub begins : IsPrefix lists.0 lists.1
    pub accepted : AreAccepted first lists.1

  -- what a command came to
  pub record Worked (first : Desk) (x : Clerk D g) (old : List Command × List Command) (c : Command)
      (reply : Reply) (y : Clerk D g) (new : List Command × List Command) : Type 0 where
    pub does : Does x c reply y
    pub agree : Agree first y new
    pub joined : IsAcceptance reply → new.0 ≡ old.0 ++ c ∷ []
    pub same : (IsAcceptance reply → ⊥) → new.0 ≡ old.0
    pub joins : Joins first old c reply new
