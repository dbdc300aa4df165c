-- The same talk, told of desks alone.
use Rattle.std.specs.{Io.KnownBytes.{Appends, Consumes, IsAtEnd}, Prelude.{◌≡◌, ◌⊎◌, ⊤, ℕ, false, Bool, List, [], ◌++◌, Option, IfSome, Result, Ok, Err}}
use Rattle.desk_model.specs.{claim.{Desk.Desk, Outcome.CommandMay, Sample.sample_desk}, declared.{command.{Command.Command, Query.Query}, reply.Refusal.TheVariants.Halted}}
use Rattle.{desk_model.specs.declared.reply.Reply.{Reply, TheVariants.Refused}, desk_store_catalogue.specs.claim.Audits.AskMay, desk_theorem.specs.claim.Streams.Ends}
use Rattle.{desk_theorem.specs.runs.desk_store.{claim.Clerks.{desk_of, is_halted, room_of, sectors_of, Keeps}, declared.clerk.Clerk.Clerk}, http_desk.specs.streams.claim.Talk.Talk}
use Rattle.http_desk.specs.streams.{claim.Serving.IsCutTalk, declared.serve.{ServeFault.ServeFault, Served.Served}, http_wire.claim.Interim.IsCutHead}
use Rattle.{sector_device.specs.declared.SectorDevice.Ghosts, talk_command.specs.claim.Talking.ServesSample}
use Rattle.http_desk.specs.streams.declared.serve.ServeFault.TheVariants as fault

-- A command has the desk's step, or it is refused for want of room or of memory, or since the device failed, and the desk is as it was.
abbrev pub desk_commands : Desk → Command → Reply → Desk → Type 0
desk_commands d c r e = CommandMay ⊥ ⊤ ⊥ d c r e ⊎ ((r ≡ Refused Halted) × (e ≡ d))

abbrev pub desk_asks : Desk → Query → Reply → Desk → Type 0
desk_asks d q r e = AskMay d q r × (e ≡ d)

-- a talk of desks over these requests, so many, and no answer that closes
abbrev pub DeskTalk : Desk → List ℕ → List ℕ → ℕ → Bool → Desk → Type 0
DeskTalk d input output n shut e = Talk desk_commands desk_asks d input output n shut e

-- all that was read, but for the beginning of a head
pub record IsTalkToHead (d : Desk) (input answers : List ℕ) (e : Desk) : Type 0 where
  pub taken : List ℕ
  pub rest : List ℕ
  pub read : input ≡ taken ++ rest
  pub cut : IsCutHead rest
  pub count : ℕ
  pub talk : DeskTalk d taken answers count false e

abbrev pub IsTalkSoFar : Desk → (input answers : List ℕ) → Desk → Type 0
IsTalkSoFar d input answers e = ((n : ℕ) × DeskTalk d input answers n false e) ⊎ IsTalkToHead d input answers e

-- how it ended: at the end of the input or after an answer that closes, within a request, at a write that failed, or before it began
abbrev pub DeskServesTo : Desk → Result Served ServeFault → Option (List ℕ) → List ℕ → List ℕ → Desk → Type 0
DeskServesTo d (Ok served) left input output e = (shut : Bool) × DeskTalk d input output served.requests shut e × (shut ≡ false → IsAtEnd left)
DeskServesTo d (Err fault.ReadFault) left input output e = IsTalkSoFar d input output e
DeskServesTo d (Err fault.TurnLimit) left input output e = IsTalkSoFar d input output e
DeskServesTo d (Err fault.WriteFault) left input output e = IsCutTalk desk_commands desk_asks d input output e
DeskServesTo d (Err fault.Memory) left input output e = (input ≡ []) × (output ≡ [])

-- what was written is a talk of the sample desk over what was read
pub record ServesDesk (served : Result Served ServeFault) (unread left before after : Option (List ℕ)) : Type 0 where
  pub last : Desk
  pub input : List ℕ
  pub output : List ℕ
  pub reads : Consumes unread left input
  pub writes : Appends before after output
  pub serves : DeskServesTo sample_desk served left input output last

-- a talk of clerks over the sample desk is one of desks
abbrev pub SampleIsServed : {D : Type 0} → Ghosts D → Type 0
SampleIsServed g =
    (served : Result Served ServeFault) (old new : Ends) → ServesSample g served old new
    → ServesDesk served old.unread new.unread old.written new.written

-- a clerk, where there is one, keeps this desk on a device of so many sectors, and has 256 journal pages
pub record IsClerkOf {D : Type 0} {g : Ghosts D} (kept : Desk) (sectors : ℕ) (result : Option (Clerk D g)) : Type 0 where
  pub keeps : IfSome result Keeps
  pub desk : IfSome result (λ clerk. desk_of clerk ≡ kept)
  pub working : IfSome result (λ clerk. is_halted clerk ≡ false)
  pub size : IfSome result (λ clerk. sectors_of clerk ≡ sectors)
  pub journal : IfSome result (λ clerk. room_of clerk ≡ 256)
