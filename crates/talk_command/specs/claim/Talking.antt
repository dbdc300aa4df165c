-- What `talk` comes to.
use Rattle.std.specs.{Io.KnownBytes.{Appends, Consumes}, Prelude.{◌≡◌, ◌⊎◌, ℕ, false, List, [], Option, Result, Ok, Err}}
use Rattle.{byte_stream.specs.claim.Counts.counted, command_output.specs.declared.status.Status.{Status, TheVariants.{Done, Memory, Stream}}, desk_theorem.specs.claim.Streams.Ends}
use Rattle.{desk_model.specs.{claim.Sample.sample_desk, declared.{command.{Command.Command, Query.Query}, reply.Reply.Reply}}, desk_store_catalogue.specs.claim.Audits.AskMay}
use Rattle.desk_theorem.specs.{claim.{Device.LeadsTo, OneLife.{Asked, StreamHolds}}, lives.claim.Versions.version_2, runs.desk_store.claim.Commands.Does}
use Rattle.desk_theorem.specs.runs.desk_store.{claim.Clerks.{desk_of, disk_of, is_halted, room_of, sectors_of, Keeps}, declared.clerk.Clerk.Clerk}
use Rattle.http_desk.specs.streams.{claim.Serving.{read_failures, write_failures}, declared.serve.{ServeFault.ServeFault, Served.Served}}
use Rattle.{sector_device.specs.declared.SectorDevice.Ghosts, talk_command.specs.claim.Served.ServesDurably}
use Rattle.http_desk.specs.streams.declared.serve.ServeFault.TheVariants as fault

abbrev pub status_of : Result Served ServeFault → Status
status_of (Ok served) = Done
status_of (Err fault.ReadFault) = Stream
status_of (Err fault.WriteFault) = Stream
status_of (Err fault.Memory) = Memory
status_of (Err fault.TurnLimit) = Stream

-- a reader and a writer, by what is known of each
abbrev pub ends_of : (unread : Option (List ℕ)) (turns failed_reads : ℕ) (written : Option (List ℕ)) (failed_writes : ℕ) → Ends
ends_of unread turns failed_reads written failed_writes =
    record { unread = unread; turns = turns; failed_reads = failed_reads; written = written; failed_writes = failed_writes }

-- no clerk could be made, and nothing was read or written
pub record IsUnserved (served : Result Served ServeFault) (old new : Ends) : Type 0 where
  pub memory : served ≡ Err fault.Memory
  pub reads : Consumes old.unread new.unread []
  pub writes : Appends old.written new.written []

module _ {D : Type 0} (g : Ghosts D) where
  -- what the clerk does with a command, and answers a query
  abbrev pub clerk_commands : Clerk D g → Command → Reply → Clerk D g → Type 0
  clerk_commands x command reply y = Does x command reply y

  abbrev pub clerk_asks : Clerk D g → Query → Reply → Clerk D g → Type 0
  clerk_asks x query reply y = AskMay (desk_of x) query reply × (y ≡ x)

  -- What was written is a talk over what was read, of a clerk whose store keeps the sample desk in 2,000 sectors with 256 journal pages,
  -- and whose device has not failed; and since each acknowledgement what a stop leaves opens to a desk that has it. So this is one life of
  -- that store.
  pub record ServesClerk (served : Result Served ServeFault) (old new : Ends) : Type 0 where
    pub clerk : Clerk D g
    pub keeps : Keeps clerk
    pub desk : desk_of clerk ≡ sample_desk
    pub working : is_halted clerk ≡ false
    pub honest : (disk_of clerk).is_honest
    pub size : sectors_of clerk ≡ 2000
    pub journal : room_of clerk ≡ 256
    pub last : Clerk D g
    pub stays_honest : (disk_of last).is_honest
    pub serves : ServesDurably clerk served last old.unread new.unread old.written new.written
    pub life : LeadsTo (Asked (StreamHolds old new served)) 2000 (disk_of clerk).faults (version_2, sample_desk) (disk_of last)

  abbrev pub ServesSample : Result Served ServeFault → (old new : Ends) → Type 0
  ServesSample served old new = ServesClerk served old new ⊎ IsUnserved served old new

  -- The same, and the status tells how it ended: a read fault or a write fault only where the reader or the writer failed, and the turn
  -- limit only where all its turns were made.
  abbrev pub Talks : Status → (unread left before after : Option (List ℕ))
      → (reads_failed reads_fail writes_failed writes_fail turned turns : ℕ) → Type 0
  Talks status unread left before after reads_failed reads_fail writes_failed writes_fail turned turns =
      (served : Result Served ServeFault) × (status ≡ status_of served)
      × ServesSample served (ends_of unread turned reads_failed before writes_failed) (ends_of left turns reads_fail after writes_fail) × (reads_fail ≡ read_failures reads_failed served)
      × (writes_fail ≡ write_failures writes_failed served) × (served ≡ Err fault.TurnLimit → turns ≡ counted turned 4294967296)
