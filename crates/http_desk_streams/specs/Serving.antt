-- What no promise rests on, beside claim/Serving.antt.
use Rattle.std.specs.{Prelude.{◌≡◌, ◌⊎◌, ⊤, ℕ, ◌<◌, ◌≤◌, Bool, true, false, List, [], ◌++◌, Option, Some, None, Result, Ok, Err, codes}, Str.IsAscii}
use Rattle.{desk_model.specs.declared.{command.{Command.Command, Query.Query}, reply.Reply.Reply}, http_desk_routes.specs.claim.Orders.order_of, http_wire.specs.Interim.IsCutShort}
use Rattle.http_desk_streams.specs.{claim.{Answers.{bytes_of, fault_message, memory_text}, Talk.Handles}, declared.serve.{Asked.Asked, Next.Next, ServeFault.ServeFault}}
use Rattle.http_wire.specs.{Incoming.{Came, IsNoEnd, TakesSome as RequestTakes}, Plain.IsPlain, Queue.Queued, claim.{Interim.Interim, Prefix.{IsIncomplete, is_head}}}
use Rattle.http_wire.specs.declared.{fault.RequestFault.RequestFault, request.Incoming.Incoming}
use Rattle.http_desk_streams.specs.declared.serve.Asked.TheVariants as asked
use Rattle.http_desk_streams.specs.declared.serve.Next.TheVariants as next
use Rattle.http_desk_streams.specs.declared.serve.ServeFault.TheVariants as fault
use Rattle.http_desk_routes.specs.declared.order.Order.TheVariants as order
use Rattle.http_wire.specs.declared.fault.RequestFault.TheVariants as request
use Rattle.http_wire.specs.declared.request.Incoming.TheVariants as came

-- what a stream can still give never grows, and each request that is answered takes some of it
abbrev pub TakesSome : Result Next ServeFault → ℕ → ℕ → Type 0
TakesSome (Ok next.Again) old new = new < old
TakesSome (Ok next.Last) old new = new ≤ old
TakesSome (Ok next.End) old new = new ≤ old
TakesSome (Err e) old new = new ≤ old

-- the same of what came next
abbrev pub TakesNext : Result (Option Asked) RequestFault → ℕ → ℕ → Type 0
TakesNext (Ok (Some (asked.List closes))) old new = new < old
TakesNext (Ok (Some (asked.Of incoming))) old new = RequestTakes (Ok incoming) old new
TakesNext (Ok None) old new = new ≤ old
TakesNext (Err e) old new = new ≤ old

-- the answer was put after what waited, and all that was sent where it closes; or a prefix was
abbrev pub Puts : (old new : Option (List ℕ)) → (before after : List ℕ) → (closes : Bool) → Result Next ServeFault → List ℕ → Type 0
Puts old new before after closes (Ok next.Again) text = (closes ≡ false) × Queued old new before after text
Puts old new before after closes (Ok next.Last) text = (closes ≡ true) × Queued old new before [] text
Puts old new before after closes (Err fault.WriteFault) text = (unsent : List ℕ) × Queued old new before unsent text
Puts old new before after closes (Ok next.End) text = ⊥
Puts old new before after closes (Err fault.ReadFault) text = ⊥
Puts old new before after closes (Err fault.Memory) text = ⊥
Puts old new before after closes (Err fault.TurnLimit) text = ⊥

-- what is unsent waits, but at the end and at a read fault nothing does
abbrev pub Leaves : Result Next ServeFault → (unsent pending : List ℕ) → Type 0
Leaves (Ok next.Again) unsent pending = unsent ≡ pending
Leaves (Ok next.Last) unsent pending = unsent ≡ []
Leaves (Ok next.End) unsent pending = unsent ≡ []
Leaves (Err fault.ReadFault) unsent pending = unsent ≡ []
Leaves (Err fault.TurnLimit) unsent pending = unsent ≡ []
Leaves (Err fault.WriteFault) unsent pending = ⊤
Leaves (Err fault.Memory) unsent pending = ⊤

-- no answer is due: nothing came, or not enough to tell
abbrev pub IsUnanswered : (input interim : List ℕ) → Type 0
IsUnanswered input interim = ((input ≡ []) × (interim ≡ [])) ⊎ (IsIncomplete input × Interim input interim)

-- the writer failed before the answer to this input: over a prefix of it no answer is due
pub record CutsNext (input interim : List ℕ) : Type 0 where
  pub prefix : List ℕ
  pub unread : List ℕ
  pub read : input ≡ prefix ++ unread
  pub due : IsUnanswered prefix interim

-- what came next, and the interim line that was written or waits: what is unsent waits, but at the end and at a read fault nothing does
abbrev pub NextCame : List ℕ → Result (Option Asked) RequestFault → (rest interim unsent pending : List ℕ) → Type 0
NextCame input (Ok (Some (asked.List closes))) rest interim unsent pending = IsPlain input (codes "GET") (codes "/plans") closes rest × (interim ≡ []) × (unsent ≡ pending)
NextCame input (Ok (Some (asked.Of incoming))) rest interim unsent pending = IsNoEnd incoming × Came input incoming rest interim × (unsent ≡ pending)
NextCame input (Ok None) rest interim unsent pending = IsUnanswered input interim × (unsent ≡ [])
NextCame input (Err request.Read) rest interim unsent pending = (IsUnanswered input interim ⊎ IsCutShort input interim) × (unsent ≡ [])
NextCame input (Err request.TurnLimit) rest interim unsent pending = (IsUnanswered input interim ⊎ IsCutShort input interim) × (unsent ≡ [])
NextCame input (Err request.Write) rest interim unsent pending = CutsNext input interim

-- its command is taken, if it asks for one
abbrev pub MayHandle : {X : Type 0} → (takes : X → Command → Type 0) → X → Incoming → Type 0
MayHandle takes x (came.Request r) = IsAscii r.target.items × ((c : Command) → order_of r.method r.target.items r.body.items ≡ order.Command c → takes x c)
MayHandle takes x (came.Refused f head_only) = ⊤
MayHandle takes x (came.OutOfMemory head_only) = ⊤
MayHandle takes x came.End = ⊥

-- it is answered so, and y is left
abbrev pub Handled : {X : Type 0} → (commands : X → Command → Reply → X → Type 0) → (asks : X → Query → Reply → X → Type 0) → X → Asked → (text : List ℕ) → (shut : Bool) → X → Type 0
Handled commands asks x (asked.List closes) text shut y = Handles commands asks x (order_of (codes "GET") (codes "/plans") []) closes false text shut y
Handled commands asks x (asked.Of (came.Request r)) text shut y = Handles commands asks x (order_of r.method r.target.items r.body.items) r.closes (is_head r.method) text shut y
Handled commands asks x (asked.Of (came.Refused f head_only)) text shut y = (text ≡ bytes_of true head_only (fault_message f)) × (shut ≡ true) × (y ≡ x)
Handled commands asks x (asked.Of (came.OutOfMemory head_only)) text shut y = (text ≡ memory_text head_only) × (shut ≡ true) × (y ≡ x)
Handled commands asks x (asked.Of came.End) text shut y = ⊥
