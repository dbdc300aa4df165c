-- A clerk after a front, by the clerk with whom its gallery began.
use Rattle.std.specs.Prelude.{◌≡◌, ℕ, Bool, false, All, List}
use Rattle.{desk_gallery.specs.claim.{Telling.halts_of, Working.AreAccepted}, desk_model.specs.{claim.Desk.Desk, declared.command.Command.Command}}
use Rattle.desk_theorem_runs.specs.{claim.{Runs.{Call, acknowledged}, SweptRuns.SweptRun}, desk_store.declared.clerk.Clerk.Clerk}
use Rattle.sector_device.specs.declared.SectorDevice.{Ghosts}

-- what is known of the clerk with whom a gallery begins
abbrev pub Beginning : Type 1
Beginning = (D : Type 0) → (g : Ghosts D) → Clerk D g → Type 0

module _ {D : Type 0} {g : Ghosts D} where
  -- this clerk is such a one
  abbrev pub BeginsWith : Beginning → Clerk D g → Type 0
  BeginsWith begins x = begins D g x

  -- Commands were done one after the other, each of which was asked for, and steps of sweeps between them, from a clerk on of whom this is
  -- known to this one; those that were acknowledged are what is shown, and so many were told as halted.
  pub record HasRun (begins : Beginning) (asked : Command → Type 0) (last : Clerk D g) (shown : List Command) (halts : ℕ) : Type 0 where
    pub first : Clerk D g
    pub began : BeginsWith begins first
    pub calls : List Call
    pub checked : Bool
    pub run : SweptRun false first calls checked last
    pub each : All (λ call. asked call.0) calls
    pub are_shown : acknowledged calls ≡ shown
    pub are_halts : halts_of calls ≡ halts

  -- so they were, and each of the acknowledged ones is accepted after those before it
  pub record IsLeftBy (start : Desk) (begins : Beginning) (asked : Command → Type 0) (last : Clerk D g) : Type 0 where
    pub commands : List Command
    pub accepted : AreAccepted start commands
    pub halts : ℕ
    pub ran : HasRun begins asked last commands halts
