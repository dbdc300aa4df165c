-- Runs of a clerk, and what a stop at any moment of one leaves.
use Rattle.std.specs.Prelude.{◌≡◌, ℕ, ◌≤◌, false, if◌then◌else◌, List, [], ◌∷◌, ◌++◌, length, take, fold}
use Rattle.{desk_model.specs.{claim.{Desk.Desk, Step.step}, declared.{command.Command.Command, reply.Reply.Reply}}, desk_store.specs.claim.Commands.Does}
use Rattle.{desk_store.specs.{claim.Clerks.{desk_of, disk_of, sectors_of, Keeps}, declared.clerk.Clerk.Clerk}, desk_store_pages.specs.claim.Desks.OpensDesk}
use Rattle.sector_device.specs.{claim.Disk.{Disk, Image}, declared.SectorDevice.Ghosts}
use Rattle.desk_model.specs.declared.reply.Reply.TheVariants as reply

-- a command with its reply
abbrev pub Call : Type 0
Call = Command × Reply

abbrev pub after : Desk → List Command → Desk
after d commands = fold (λ d c. (step d c).1) d commands

-- this, if the reply is that of an accepted command
abbrev pub if_accepted : {A : Type 0} → A → Reply → List A
if_accepted a (reply.Created name revisions) = a ∷ []
if_accepted a (reply.Retired name) = a ∷ []
if_accepted a (reply.Plans rows) = []
if_accepted a (reply.Blocks text) = []
if_accepted a (reply.Baf text) = []
if_accepted a (reply.Audited text) = []
if_accepted a (reply.Refused refusal) = []

-- the commands that were acknowledged
abbrev pub acknowledged : List Call → List Command
acknowledged [] = []
acknowledged (e ∷ calls) = if_accepted e.0 e.1 ++ acknowledged calls

-- the image opens to the desk after some of the commands, from the first on
pub record OpensAfterSome (sectors : ℕ) (d : Desk) (commands : List Command) (c : Image) : Type 0 where
  pub count : ℕ
  pub within : count ≤ length commands
  pub opens : OpensDesk sectors (after d (take count commands)) c

-- The moments don't fall, from the first one to the device's. Each image that a stop since the first may leave opens to the desk after
-- some of the commands; since the next, to that after the first command and some that follow; and so on.
abbrev pub OpenSince : Disk → ℕ → Desk → ℕ → List ℕ → List Command → Type 0
OpenSince disk sectors d t [] commands = (t ≤ disk.moment) × ((c : Image) → disk.left t c → OpensAfterSome sectors d commands c)
OpenSince disk sectors d t (m ∷ ms) [] = ⊥
OpenSince disk sectors d t (m ∷ ms) (a ∷ commands) = (t ≤ m)
    × ((c : Image) → disk.left t c → OpensAfterSome sectors d (a ∷ commands) c) × OpenSince disk sectors (step d a).1 m ms commands

module _ {D : Type 0} {g : Ghosts D} where
  -- commands, one after the other
  pub data Run : Clerk D g → List Call → Clerk D g → Type 0 where
    over : (x : Clerk D g) → Run x [] x
    went : (x : Clerk D g) (c : Command) (r : Reply) (y : Clerk D g) (calls : List Call) (z : Clerk D g)
        → Does x c r y → Run y calls z → Run x ((c, r) ∷ calls) z

  -- the device's moment right after each acknowledged command, at which its call returned
  abbrev pub acknowledged_at : (x : Clerk D g) (calls : List Call) (z : Clerk D g) → Run x calls z → List ℕ
  acknowledged_at x _ z (Run.over _) = []
  acknowledged_at x _ z (Run.went _ c r y calls _ does run) = if_accepted (disk_of y).moment r ++ acknowledged_at y calls z run

  -- the command in which a fault came, if the desk before it accepts it
  abbrev pub in_flight : (x : Clerk D g) (calls : List Call) (z : Clerk D g) → Run x calls z → List Command
  in_flight x _ z (Run.over _) = []
  in_flight x _ z (Run.went _ c r y calls _ does run) = if y.halted then if_accepted c (step (desk_of x) c).0 else in_flight y calls z run

  -- A run leaves the desk after the acknowledged commands. Since the call of the j-th of them returned, each image opens to the desk after
  -- at least j of them, the command in flight after them.
  pub record Survives (x : Clerk D g) (calls : List Call) (z : Clerk D g) (run : Run x calls z) : Type 0 where
    pub desk : desk_of z ≡ after (desk_of x) (acknowledged calls)
    pub halted : z.halted ≡ false → in_flight x calls z run ≡ []
    pub since : OpenSince (disk_of z) (sectors_of x) (desk_of x) (disk_of x).moment
        (acknowledged_at x calls z run) (acknowledged calls ++ in_flight x calls z run)

  -- where the store keeps the desk, the clerk hasn't halted and the device is honest to the end
  abbrev pub SurvivesEachRun : Clerk D g → Type 0
  SurvivesEachRun x = (calls : List Call) (z : Clerk D g) (run : Run x calls z)
      → Keeps x → x.halted ≡ false → (disk_of z).is_honest → Survives x calls z run
