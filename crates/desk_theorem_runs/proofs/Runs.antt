-- Runs of a clerk: a run whose store isn't swept is a swept run with no sweep in it.
use Rattle.{std.proofs.Common.{◌≡◌, true, List, refl}, desk_store.specs.declared.clerk.Clerk.Clerk, sector_device.specs.declared.SectorDevice.Ghosts}
use Rattle.desk_theorem_runs.{specs.claim.Runs.{Call, acknowledged_at, in_flight, Run, SurvivesEachRun}, proofs.SweptRuns.survives as swept_survives}
use Rattle.desk_theorem_runs.specs.claim.SweptRuns.{SweptRun, acknowledged_at as swept_acknowledged_at, in_flight as swept_in_flight}

module _ {D : Type 0} {g : Ghosts D} where
  record IsSwept (x : Clerk D g) (calls : List Call) (z : Clerk D g) (run : Run x calls z) : Type 0 where
    swept : SweptRun true x calls true z
    moments : swept_acknowledged_at true x calls true z swept ≡ acknowledged_at x calls z run
    flying : swept_in_flight true x calls true z swept ≡ in_flight x calls z run

  is_swept : (x : Clerk D g) (calls : List Call) (z : Clerk D g) (run : Run x calls z) → IsSwept x calls z run
  is_swept x _ z (Run.over _) = record { swept = SweptRun.over true x; moments = refl; flying = refl }
  is_swept x _ z (Run.went _ c r y calls _ does run) =
      let rest = is_swept y calls z run in
      record { swept = SweptRun.went true x c r y calls true z does rest.swept; moments = rw rest.moments; flying = rw rest.flying }

  pub survives : (x : Clerk D g) → SurvivesEachRun x
  survives x calls z run keeps off honest =
      let is = is_swept x calls z run in
      let all = swept_survives x true calls true z is.swept keeps off honest in
      record { desk = all.desk; halted = rw is.flying at all.halted; since = rw (is.moments, is.flying) at all.since }
