-- What reading a request gives.
use Rattle.{std.specs.{Io.KnownBytes.{Appends, IsAtEnd}, Str.IsAscii}, http_wire.specs.{Budget.{read_failures_of, write_failures_of}, Interim.{IsCutInterim, IsCutShort}}}
use Rattle.std.specs.Prelude.{◌≡◌, ℕ, ◌++◌, ◌<◌, ◌≤◌, Bool, true, false, if◌then◌else◌, List, [], Option, Some, None, Result, Ok, Err, ⊤, vec_capacity}
use Rattle.http_wire.specs.claim.{Interim.{Interim, continue_text, asks_to_continue}, Prefix.{HasRequest, HasFault, IsOutOfMemory, IsIncomplete, closes_after}, Target.target_of}
use Rattle.{http_wire.specs.declared.{fault.RequestFault.RequestFault, look.Head.Head, request.{Begun.Begun, Incoming.Incoming, Request.Request}}, httparse.specs.Spans.span_bytes}
use Rattle.http_wire_intake.specs.{Budget.Spends, Draws.{Reads, SameParts, left_of}, declared.{bad_request.BadRequest.TheVariants.BadTarget, chunks.Chunked.Chunked}}
use Rattle.{http_wire_intake.specs.declared.{fault.WireFault.WireFault, intake.Intake.Intake}, httparse.specs.Grammar.RequestHead}
use Rattle.http_wire.specs.declared.request.Incoming.TheVariants as came
use Rattle.http_wire_intake.specs.declared.fault.WireFault.TheVariants as wire
use Rattle.http_wire.specs.declared.fault.RequestFault.TheVariants as fault
use Rattle.http_wire_intake.specs.declared.chunks.Chunked.TheVariants as chunked

-- the text is what the target asks for, if it may stand
abbrev pub IsTargetOf : List ℕ → Bool → List ℕ → Type 0
IsTargetOf target true text = target_of target ≡ Some text
IsTargetOf target false text = target_of target ≡ None

-- a request begins as its head says, with as much room for a body as one turn fills
pub record IsBegun (bytes : List ℕ) (head : Head) (b : Begun) : Type 0 where
  pub method : b.request.method ≡ span_bytes bytes head.method
  pub target : IsTargetOf (span_bytes bytes head.target) b.is_good b.request.target.items
  pub closes : b.request.closes ≡ head.closes
  pub body : b.request.body.items ≡ []
  pub room : vec_capacity b.request.body ≤ 65536

-- the request stands at the start of the input, and rest follows it
pub record IsRequestOf (input : List ℕ) (r : Request) (rest : List ℕ) : Type 0 where
  pub head : RequestHead
  pub request : HasRequest input head r.target.items r.body.items rest
  pub method : r.method ≡ head.method
  pub closes : r.closes ≡ closes_after head
  pub ascii : IsAscii r.target.items
  -- the bytes that it is
  pub prefix : List ℕ
  pub cut : input ≡ prefix ++ rest
  pub alone : (more : List ℕ) → HasRequest (prefix ++ more) head r.target.items r.body.items more

-- what stands at the start of the input, and what was written before the answer to it
abbrev pub Came : List ℕ → Incoming → (rest sent : List ℕ) → Type 0
Came input (came.Request r) rest sent = (is : IsRequestOf input r rest) × (sent ≡ continue_text (asks_to_continue is.head))
Came input (came.Refused f head_only) rest sent = HasFault input f head_only × Interim input sent
Came input (came.OutOfMemory head_only) rest sent = IsOutOfMemory input head_only × Interim input sent
Came input came.End rest sent = IsIncomplete input × Interim input sent

-- of the input up to here; a look at the last line may have been put off where reading was cut short
abbrev pub ReadsPrefix : List ℕ → Result Incoming RequestFault → (rest sent : List ℕ) → Type 0
ReadsPrefix input (Ok incoming) rest sent = Came input incoming rest sent
ReadsPrefix input (Err fault.Read) rest sent = IsCutShort input sent
ReadsPrefix input (Err fault.TurnLimit) rest sent = IsCutShort input sent
ReadsPrefix input (Err fault.Write) rest sent = IsCutInterim input sent

abbrev pub IsNoEnd : Incoming → Type 0
IsNoEnd (came.Request r) = ⊤
IsNoEnd (came.Refused f head_only) = ⊤
IsNoEnd (came.OutOfMemory head_only) = ⊤
IsNoEnd came.End = ⊥

-- what stands at the start of the bytes that have come, before whose answer nothing is written
abbrev pub Taken : List ℕ → Incoming → List ℕ → Type 0
Taken input incoming rest = IsNoEnd incoming × Came input incoming rest []

-- the end is told only at the reader's end
abbrev pub EndsAt : Option (List ℕ) → Result Incoming RequestFault → Type 0
EndsAt left (Ok (came.Request r)) = ⊤
EndsAt left (Ok (came.Refused f head_only)) = ⊤
EndsAt left (Ok (came.OutOfMemory head_only)) = ⊤
EndsAt left (Ok came.End) = IsAtEnd left
EndsAt left (Err e) = ⊤

-- it never grows, and each request takes some of it
abbrev pub TakesSome : Result Incoming RequestFault → ℕ → ℕ → Type 0
TakesSome (Ok (came.Request r)) old new = new < old
TakesSome (Ok (came.Refused f head_only)) old new = new ≤ old
TakesSome (Ok (came.OutOfMemory head_only)) old new = new ≤ old
TakesSome (Ok came.End) old new = new ≤ old
TakesSome (Err e) old new = new ≤ old

-- what a request comes to once its body is there: is_good tells whether its target may stand
abbrev pub targeted : Request → Bool → Bool → Incoming
targeted r is_good head_only = if is_good then came.Request r else came.Refused BadTarget head_only

-- what a request comes to once its body was read so
abbrev pub finished : Request → Bool → Bool → Result Chunked WireFault → Result Incoming RequestFault
finished r is_good head_only (Ok chunked.Whole) = Ok (targeted r is_good head_only)
finished r is_good head_only (Ok chunked.Lacking) = Ok came.End
finished r is_good head_only (Ok (chunked.Refused f)) = Ok (came.Refused f head_only)
finished r is_good head_only (Err wire.Read) = Err fault.Read
finished r is_good head_only (Err wire.Memory) = Ok (came.OutOfMemory head_only)
finished r is_good head_only (Err wire.TurnLimit) = Err fault.TurnLimit

-- reading it takes turns of the budget; the reader failed where a failed read is told, and the turns are used up where that is told
pub record DrawsRequest {R : Type 0} (turned failed : R → ℕ) (old new : Intake R) (result : Result Incoming RequestFault) : Type 0 where
  pub same : SameParts old new
  pub failures : failed new.reader.now ≡ read_failures_of (failed old.reader.now) result
  pub spends : Spends old.turns.now new.turns.now (turned old.reader.now) (turned new.reader.now)
  pub limit : result ≡ Err fault.TurnLimit → new.turns.now ≡ 0
  pub left : TakesSome result (left_of old) (left_of new)

-- the next request is read with its body, after the interim answer that it asks for
pub record ReadsRequest {R : Type 0} (remaining : R → Option (List ℕ)) (turned failed : R → ℕ) (old new : Intake R) (before after : Option (List ℕ))
    (failed_writes now_failed : ℕ) (result : Result Incoming RequestFault) : Type 0 where
  pub read : (sent : List ℕ) × Appends before after sent × Reads remaining old new (λ input rest. ReadsPrefix input result rest sent)
  pub end : EndsAt (remaining new.reader.now) result
  pub write_failures : now_failed ≡ write_failures_of failed_writes result
  pub draws : DrawsRequest turned failed old new result
