-- A run of commands as a life.
use Rattle.{std.specs.Prelude.List, desk_theorem_lives.specs.{DeskInside.LivedThrough, claim.{Calls.{asked_in, told_in}, DeskLives.Lived}}}
use Rattle.{desk_theorem_runs.specs.{claim.Runs.{Call, Run}, desk_store.declared.clerk.Clerk.Clerk}, sector_device.specs.declared.SectorDevice.Ghosts}

-- whatever commands were carried out by a clerk from x to y
abbrev pub RunsAreLives : {D : Type 0} {g : Ghosts D} → Clerk D g → Type 0
RunsAreLives {D} {g} x = (calls : List Call) (y : Clerk D g) → Run x calls y → LivedThrough (λ t u d e. Lived t u d (asked_in calls) (told_in calls) e) x y
