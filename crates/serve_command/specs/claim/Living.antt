-- What a run of `serve` makes of the store that it opens: one life of it, on the device that was opened for it. The exit status goes with
-- that, and what is printed and told.
use Rattle.std.specs.Prelude.{◌≡◌, ◌<◌, ℕ, Bool, true, false, [], Option, Some, None, Result, Ok, Err}
use Rattle.{byte_stream.specs.declared.sink.WriteFault.WriteFault, command_output.specs.{claim.Writing.{Written, Writes}, declared.status.Status.Status}}
use Rattle.{http_desk.specs.{connections.declared.ran.Ran.Ran, seats.claim.Streams.Traffic}, inspect_command.specs.desk_theorem.claim.InFile.LivedOn}
use Rattle.inspect_command.specs.{desk_theorem.claim.OneLife.{Asked, ClosedHolds, OfficeHolds, RequestsHold}, store_command.claim.Living.{Bars, OpensNone}}
use Rattle.{inspect_command.specs.store_command.declared.fault.StoreFault.TheVariants.Memory, sector_device.specs.declared.SectorDevice.Ghosts}
use Rattle.serve_command.specs.{claim.Telling.{fault_of_halt, listening_text, EndsServing, HasAnnounced}, declared.fault.ServingFault.ServingFault}
use Rattle.serve_command.specs.declared.fault.ServingFault.TheVariants.{Store, Socket, Output}

-- `opened` says how the device of a store was opened, and `none` that none was; `fails` whether what listens says that it failed
module _ {D : Type 0} (g : Ghosts D) (opened : D → Type 0) (none : Type 0) {A R W : Type 0} (streams : A → Traffic R W) (fails : A → Bool → Type 0) (listening : Option A) (workers port : ℕ) (end : Status) where
  -- streams that came from what listens were served in one life, and came to this
  pub record OfficeLived (socket_failed : Bool) : Type 0 where
    pub from : A
    pub listens : listening ≡ Some from
    pub failed : fails from socket_failed
    pub ran : Ran
    pub life : LivedOn g opened (Asked (OfficeHolds (streams from) workers ran))

  -- so they were until the store's device failed; a device that held no store may not have failed
  pub record HaltedLived : Type 0 where
    pub from : A
    pub listens : listening ≡ Some from
    pub ran : Ran
    pub life : LivedOn g opened (λ t u s e. Asked (OfficeHolds (streams from) workers ran) t u s e × (t < u))

  -- or memory for the seats was refused, or for what they came to
  pub record ClosedLived : Type 0 where
    pub from : A
    pub listens : listening ≡ Some from
    pub life : LivedOn g opened (Asked (ClosedHolds (streams from) workers))

  -- the line of the port was printed, and how it ended is told
  abbrev pub HasServed : Result (Unit {0}) ServingFault → (old new told_old told_new : Written) → Type 0
  HasServed ended old new told_old told_new = HasAnnounced port old new × EndsServing ended end told_old told_new

  pub data ServesLife (old new told_old told_new : Written) : Type 0 where
    served : HasServed (Ok tt) old new told_old told_new → OfficeLived false → ServesLife old new told_old told_new
    -- what listens failed
    unheard : HasServed (Err Socket) old new told_old told_new → OfficeLived true → ServesLife old new told_old told_new
    -- the store's device failed, or a command met rows that no desk leaves
    halted : (failed : Bool) → HasServed (Err (Store (fault_of_halt failed))) old new told_old told_new → HaltedLived → ServesLife old new told_old told_new
    given_up : HasServed (Err (Store Memory)) old new told_old told_new → ClosedLived → ServesLife old new told_old told_new
    -- standard output failed
    unused : (fault : WriteFault) → Writes old new (listening_text port) (Err fault) → EndsServing (Err Output) end told_old told_new
        → LivedOn g opened (Asked (RequestsHold [] [])) → ServesLife old new told_old told_new
    barred : Bars g opened none end old new told_old told_new → ServesLife old new told_old told_new
    not_opened : OpensNone g opened none end old new told_old told_new → ServesLife old new told_old told_new
    not_listening : listening ≡ None → new ≡ old → EndsServing (Err Socket) end told_old told_new → none → ServesLife old new told_old told_new
