-- A store that is served: what is opened, printed and told, and the status that goes with it.
use Rattle.std.specs.{Borrow.Bor, Prelude.{◌≡◌, ◌⊎◌, ℕ, List, [], codes, Bool, true, false, Option, Some, None, Result, Ok, Err}}
use Rattle.{byte_stream.specs.declared.sink.WriteFault.WriteFault, command_output.specs.claim.{Faults.status_of_open, Writing.{Written, Writes, Told}}}
use Rattle.{command_output.specs.declared.status.Status.Status, desk_model.specs.claim.Desk.Desk, http_desk.specs.{connections.declared.ran.Ran.Ran, seats.claim.Streams.Traffic}}
use Rattle.{http_desk.specs.seats.desk_gallery.Working.IsRunFrom, inspect_command.specs.desk_store.claim.Clerks.{desk_of, disk_of, is_halted, pages_of, Keeps}}
use Rattle.inspect_command.specs.{desk_store.declared.clerk.Clerk.Clerk, desk_theorem.claim.{Device.OnDevice, OneLife.{Asked, ClosedHolds, OfficeHolds, RequestsHold}}}
use Rattle.inspect_command.specs.{desk_theorem_loading.Openings.IsOpened, store_command.{Filling.IsNotOpened, Reading.{ReadsDesk, ShowsWhatIsRead}}}
use Rattle.{inspect_command.specs.store_command.declared.fault.StoreFault.{StoreFault, TheVariants.Memory}, page_store.specs.claim.Transactions.device_in}
use Rattle.{sector_device.specs.declared.SectorDevice.Ghosts, serve_command.specs.{Outlasting.{FailsSince, OutlastsWhatIsRead}, claim.Lasting.{LastsAsked, ServesStreams}}}
use Rattle.{serve_command.specs.declared.fault.ServingFault.{ServingFault, TheVariants.{Store, Socket, Output}}, state_files.specs.declared.fault.OpenFault.OpenFault}
use Rattle.state_files.specs.declared.fault.OpenFault.TheVariants.{Unreadable, Memory as NoMemory}
use Rattle.command_output.specs.declared.status.Status.TheVariants as status
pub use Rattle.serve_command.specs.claim.Telling.{listening_text, fault_line, status_of, fault_of_halt, HasAnnounced, EndsServing}

-- what a run came to, by whether the clerk halted in it, whether its device failed, and whether the socket did
abbrev pub end_of : (halted device_failed socket_failed : Bool) → Result (Unit {0}) ServingFault
end_of true device_failed _ = Err (Store (fault_of_halt device_failed))
end_of false _ true = Err Socket
end_of false _ false = Ok tt

-- what listens, where anything does
abbrev pub listener_of : {A : Type 0} → Option (Bor A) → Option A
listener_of None = None
listener_of (Some listener) = Some listener.now

-- what is told of a log's file that can't be opened
abbrev pub log_line : OpenFault → List ℕ
log_line Unreadable = codes "plandesk: log: Unreadable\n"
log_line NoMemory = codes "plandesk: log: Memory\n"

-- it is told, and the status is that of every file that can't be opened
abbrev pub RefusesLog : OpenFault → Status → (told_before told_after : Written) → Type 0
RefusesLog fault end told_before told_after = (end ≡ status_of_open fault) × Told told_before told_after (log_line fault)

module _ {D O : Type 0} (g : Ghosts D) (opens : O → List ℕ → Result D StoreFault → O → Type 0) (closes : O → D → O → Type 0) where
  -- this clerk opened the store of the name, and shows the desk to which opens what its device read
  pub record IsOpen (before : O) (name : List ℕ) (clerk : Clerk D g) (after : O) : Type 0 where
    pub device : D
    pub given : opens before name (Ok device) after
    pub opened : IsOpened device clerk
    pub shows : ShowsWhatIsRead device clerk

  -- a clerk's device was closed as the clerk left it
  abbrev pub ClosesClerk : (before : O) → Clerk D g → (after : O) → Type 0
  ClosesClerk before clerk after = closes before (device_in (pages_of clerk)) after

  -- this clerk opened the store of the name, and its device was closed as it was then
  pub record IsUnused (before : O) (name : List ℕ) (after : O) : Type 0 where
    pub clerk : Clerk D g
    pub middle : O
    pub given : IsOpen before name clerk middle
    pub closed : ClosesClerk middle clerk after
    pub life : OnDevice (Asked (RequestsHold [] [])) (g.disk given.device) (disk_of clerk)

  -- the name's device was opened, and not as a store, and was closed so
  pub record IsNoStore (before : O) (name : List ℕ) (fault : StoreFault) (after : O) : Type 0 where
    pub device : D
    pub middle : O
    pub given : opens before name (Ok device) middle
    pub left : D
    pub why : IsNotOpened g device fault left
    pub closed : closes middle left after

  abbrev pub OpensStore : (before : O) → List ℕ → Result (Clerk D g) StoreFault → (after : O) → Type 0
  OpensStore before name (Ok clerk) after = IsOpen before name clerk after
  OpensStore before name (Err fault) after = opens before name (Err fault) after ⊎ IsNoStore before name fault after

  -- where memory is refused before, nothing is opened
  abbrev pub NotOpened : (before : O) → List ℕ → StoreFault → (after : O) → Type 0
  NotOpened before name fault after = ((fault ≡ Memory) × (after ≡ before)) ⊎ OpensStore before name (Err fault) after

  -- what streams come from, where that is anything; what it heard of a run, and whether it said that it failed; and by how many they are
  -- served
  module _ {A R W : Type 0} (streams : A → Traffic R W) (heard : A → Ran → Type 0) (fails : A → Bool → Type 0)
      (listening : Option A) (workers : ℕ) where
    -- The store of the name was opened and served; who has it last keeps it, where what the device read opened to a desk, and has the desk
    -- after commands that were accepted one after the other. They outlive a stop at any moment, from that desk on. Along these the
    -- connections were answered that came from what listens, and came to this, which was heard there, and it said whether it failed. Its
    -- device was closed, and has failed since the opening where that is said, and nowhere else, whatever it holds. Where a clerk halted
    -- over a device that hasn't, this read as no desk when it was opened.
    pub record IsServed (before : O) (name : List ℕ) (halted device_failed socket_failed : Bool) (after : O) : Type 0 where
      pub first : Clerk D g
      pub middle : O
      pub found : IsOpen before name first middle
      pub last : Clerk D g
      pub keeps : (d : Desk) → ReadsDesk (g.disk found.device) d → Keeps last
      pub ran : IsRunFrom (desk_of first) (desk_of last)
      pub listener : A
      pub listens : listening ≡ Some listener
      pub came_to : Ran
      pub served : ServesStreams (streams listener) workers first last came_to
      pub life : OnDevice (Asked (OfficeHolds (streams listener) workers came_to)) (g.disk found.device) (disk_of last)
      pub survives : OutlastsWhatIsRead found.device first last served.lasts
      pub told : heard listener came_to
      pub failed : fails listener socket_failed
      pub halts : is_halted last ≡ halted
      pub device : FailsSince first last device_failed
      pub unsound : halted ≡ true → device_failed ≡ false → (disk_of last).is_honest → (d : Desk) → ReadsDesk (g.disk found.device) d → ⊥
      pub closed : ClosesClerk middle last after

    -- The store of the name was opened, and no connection is told as served: who has it last keeps it, where what the device read opened
    -- to a desk, and has the desk after commands that were accepted one after the other. Each of these was asked for by a connection that
    -- came from what listens, and they outlive a stop at any moment, from that desk on. Its device was closed.
    pub record IsGivenUp (before : O) (name : List ℕ) (after : O) : Type 0 where
      pub first : Clerk D g
      pub middle : O
      pub found : IsOpen before name first middle
      pub last : Clerk D g
      pub keeps : (d : Desk) → ReadsDesk (g.disk found.device) d → Keeps last
      pub ran : IsRunFrom (desk_of first) (desk_of last)
      pub listener : A
      pub listens : listening ≡ Some listener
      pub done : LastsAsked (streams listener) first last
      pub life : OnDevice (Asked (ClosedHolds (streams listener) workers)) (g.disk found.device) (disk_of last)
      pub survives : OutlastsWhatIsRead found.device first last done.lasts
      pub closed : ClosesClerk middle last after

    -- memory for the seats was refused; or while the store was served its device failed, or a command met rows that no desk leaves,
    -- whether the socket failed or not
    abbrev pub HasStopped : (before : O) → List ℕ → StoreFault → (after : O) → Type 0
    HasStopped before name fault after =
        ((fault ≡ Memory) × IsGivenUp before name after)
        ⊎ ((device_failed : Bool) × (fault ≡ fault_of_halt device_failed) × (socket_failed : Bool) × IsServed before name true device_failed socket_failed after)

    -- What comes of a store and is printed: the line once it is open, nothing where it isn't, and a prefix of the line where standard
    -- output fails, after which nothing is served. Where no socket listens, no store is opened; where one does, its fault is told where it
    -- says that it failed, and none where it says that it didn't.
    abbrev pub Announces : (port : ℕ) → (stores : O) → List ℕ → Result (Unit {0}) ServingFault → (stores_after : O) → (before after : Written) → Type 0
    Announces port stores name (Ok u) stores_after before after = HasAnnounced port before after × IsServed stores name false false false stores_after
    Announces port stores name (Err (Store fault)) stores_after before after =
        ((after ≡ before) × NotOpened stores name fault stores_after) ⊎ (HasAnnounced port before after × HasStopped stores name fault stores_after)
    Announces port stores name (Err Socket) stores_after before after =
        ((listening ≡ None) × (after ≡ before) × (stores_after ≡ stores))
        ⊎ (HasAnnounced port before after × IsServed stores name false false true stores_after)
    Announces port stores name (Err Output) stores_after before after =
        ((fault : WriteFault) × Writes before after (listening_text port) (Err fault)) × IsUnused stores name stores_after

    -- the store of the name, served
    abbrev pub Serves : (port : ℕ) → (stores : O) → List ℕ → Status → (stores_after : O) → (before after told_before told_after : Written) → Type 0
    Serves port stores name end stores_after before after told_before told_after = (ended : Result (Unit {0}) ServingFault)
        × Announces port stores name ended stores_after before after × EndsServing ended end told_before told_after
