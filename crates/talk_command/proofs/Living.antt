-- A stream at a clerk, as one life of its store.
use Rattle.{std.proofs.Common.{◌≡◌, false, Result}, desk_model.specs.claim.Sample.sample_desk, desk_theorem.specs.claim.{Device.LeadsTo, OneLife.{Asked, StreamHolds}}}
use Rattle.desk_theorem.specs.{claim.Streams.{Ends, HasCause, Streamed}, lives.{DeskInside.LivedThrough, claim.Versions.version_2}, runs.desk_store.declared.clerk.Clerk.Clerk}
use Rattle.{desk_theorem.specs.runs.desk_store.claim.Clerks.{desk_of, disk_of, is_halted, sectors_of, Keeps}, http_desk.specs.streams.claim.Serving.Serves}
use Rattle.{http_desk.specs.streams.declared.serve.{ServeFault.ServeFault, Served.Served}, sector_device.specs.declared.SectorDevice.Ghosts, desk_theorem.proofs.Sim.stream_lived}
use Rattle.{talk_command.specs.claim.Served.{AsksAtCounter, DoesAtCounter}, desk_theorem.proofs.{Device.{asked_on, through_more}, OneLife.stream_holds}}

module _ {D : Type 0} {g : Ghosts D} (x y : Clerk D g) (old new : Ends) (served : Result Served ServeFault) where
  pub stream_life : Serves DoesAtCounter AsksAtCounter x served y old.unread new.unread old.written new.written → HasCause old new served → LivedThrough (StreamHolds old new served) x y
  stream_life serves cause = through_more x y (λ t u d e. Streamed t u d old new served e) (StreamHolds old new served) (stream_holds old new served) (stream_lived x y old new served serves cause)

  -- of a clerk in such a store
  pub sample_life : Keeps x → desk_of x ≡ sample_desk → is_halted x ≡ false → sectors_of x ≡ 2000 → (disk_of y).is_honest → LivedThrough (StreamHolds old new served) x y
      → LeadsTo (Asked (StreamHolds old new served)) 2000 (disk_of x).faults (version_2, sample_desk) (disk_of y)
  sample_life keeps desk off size honest through = let leads = asked_on x y (StreamHolds old new served) through keeps off honest in rw (desk, size) at leads
