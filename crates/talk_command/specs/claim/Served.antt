-- What a stop at any moment of a served stream leaves.
use Rattle.std.{specs.{Io.KnownBytes.{Appends, Consumes}, Prelude.{◌≡◌, ℕ, ◌+◌, Bool, true, false, List, [], ◌∷◌, ◌++◌, Option, Result, Ok, Err}}, proofs.Common.{inl, inr}}
use Rattle.{desk_model.specs.declared.{command.{Command.Command, Query.Query}, reply.Reply.Reply}, desk_store_catalogue.specs.claim.Audits.AskMay}
use Rattle.desk_theorem.specs.runs.{claim.Runs.{Call, Run, Survives}, desk_store.{claim.{Clerks.{desk_of, disk_of, Keeps}, Commands.Does}, declared.clerk.Clerk.Clerk}}
use Rattle.http_desk.specs.streams.{claim.{Serving.{ServesTo, IsShortTalk}, Talk.{Talk, MayAnswer}}, declared.serve.{ServeFault.ServeFault, Served.Served}}
use Rattle.http_desk.specs.streams.{http_wire.claim.Prefix.{closes_after, is_head}, routes.{claim.Orders.order_of, declared.order.Order.Order}}
use Rattle.sector_device.specs.declared.SectorDevice.{Ghosts}
use Rattle.http_desk.specs.streams.routes.declared.order.Order.TheVariants as order
use Rattle.http_desk.specs.streams.declared.serve.ServeFault.TheVariants as fault

module _ {D : Type 0} {g : Ghosts D} where
  -- what a clerk is at a counter: commands are done, and a query changes nothing
  abbrev pub DoesAtCounter : Clerk D g → Command → Reply → Clerk D g → Type 0
  DoesAtCounter x c r y = Does x c r y

  abbrev pub AsksAtCounter : Clerk D g → Query → Reply → Clerk D g → Type 0
  AsksAtCounter x q r y = AskMay (desk_of x) q r × (y ≡ x)

  -- the command that was answered, if the order is one, and the calls after it
  abbrev pub calls_with : (x : Clerk D g) (o : Order) (closing head_only : Bool) (text : List ℕ) (shut : Bool) (y : Clerk D g)
      → MayAnswer DoesAtCounter AsksAtCounter x o closing head_only text shut y → List Call → List Call
  calls_with x (order.Command c) closing head_only text shut y may calls = (c, may.0) ∷ calls
  calls_with x (order.Query q) closing head_only text shut y may calls = calls
  calls_with x (order.Refused e) closing head_only text shut y may calls = calls

  -- the commands of a talk, each with the reply that is told in it
  abbrev pub calls_in : (x : Clerk D g) (input output : List ℕ) (n : ℕ) (shut : Bool) (y : Clerk D g)
      → Talk DoesAtCounter AsksAtCounter x input output n shut y → List Call
  calls_in x _ _ _ _ _ (Talk.over _) = []
  calls_in x _ _ _ _ _ (Talk.ended _ input interim cut line) = []
  calls_in x _ _ _ _ _ (Talk.out_of_memory _ input interim head_only out_of_memory line) = []
  calls_in x _ _ _ _ _ (Talk.refused _ input interim f head_only has line) = []
  calls_in x _ _ _ _ _ (Talk.closed _ input h target body rest text y has may) =
      calls_with x (order_of h.method target body) (closes_after h) (is_head h.method) text true y may []
  calls_in x _ _ _ _ _ (Talk.went _ input h target body rest text y output n shut z has may talk) =
      calls_with x (order_of h.method target body) (closes_after h) (is_head h.method) text false y may (calls_in y rest output n shut z talk)

  abbrev pub short_calls : (x : Clerk D g) (input answers : List ℕ) (y : Clerk D g)
      → IsShortTalk DoesAtCounter AsksAtCounter x input answers y → List Call
  short_calls x input answers y (inl talk) = calls_in x input answers talk.0 false y talk.1
  short_calls x input answers y (inr cut) = calls_in x (cut.taken ++ [])
      (answers ++ []) (cut.count + 0) false y (cut.on [] [] 0 false y (Talk.over y))

  -- the commands of a served stream; where the writer failed, of all that was answered
  abbrev pub calls_served : (x : Clerk D g) (result : Result Served ServeFault) (left : Option (List ℕ)) (input output : List ℕ) (y : Clerk D g)
      → ServesTo DoesAtCounter AsksAtCounter x result left input output y → List Call
  calls_served x (Ok s) left input output y serves = calls_in x input output s.requests serves.0 y serves.1
  calls_served x (Err fault.ReadFault) left input output y serves = short_calls x input output y serves
  calls_served x (Err fault.TurnLimit) left input output y serves = short_calls x input output y serves
  calls_served x (Err fault.WriteFault) left input output y serves =
      calls_in x serves.over_prefix.prefix serves.answers serves.over_prefix.count serves.over_prefix.shut y serves.over_prefix.talk
  calls_served x (Err fault.Memory) left input output y serves = []

  -- these commands were a run that survives each stop
  pub record StreamSurvives (x : Clerk D g) (calls : List Call) (y : Clerk D g) : Type 0 where
    pub run : Run x calls y
    pub survives : Keeps x → x.halted ≡ false → (disk_of y).is_honest → Survives x calls y run

  abbrev pub SurvivesEachStream : Clerk D g → Type 0
  SurvivesEachStream x = (result : Result Served ServeFault) (left : Option (List ℕ)) (input output : List ℕ) (y : Clerk D g)
      (serves : ServesTo DoesAtCounter AsksAtCounter x result left input output y)
      → StreamSurvives x (calls_served x result left input output y serves) y

  -- a served stream, and what a stop at any moment of it leaves
  pub record ServesDurably (x : Clerk D g) (result : Result Served ServeFault)
      (y : Clerk D g) (unread left before after : Option (List ℕ)) : Type 0 where
    pub input : List ℕ
    pub output : List ℕ
    pub reads : Consumes unread left input
    pub writes : Appends before after output
    pub serves : ServesTo DoesAtCounter AsksAtCounter x result left input output y
    pub survives : StreamSurvives x (calls_served x result left input output y serves) y
