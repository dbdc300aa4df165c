-- Answers: what each says, and their bytes.
use Rattle.std.specs.Prelude.{◌≡◌, ◌⊎◌, ◌||◌, ℕ, Bool, true, false, List, Option, Some, None, option_map, codes, ⊤}
use Rattle.{desk_model.specs.declared.reply.{Refusal.Refusal, Reply.Reply}, http_desk_routes.specs.{claim.Methods.methods_text, declared.method.Methods.Methods}}
use Rattle.desk_model.specs.declared.reply.Refusal.TheVariants.{NoPlan, NoRevision, PlanExists, Stale, BadBody, NotWholeCounty, BadCompanion, Limit, Full, Memory, Halted, NotSealed}
use Rattle.{http_desk_routes.specs.declared.order.Error.Error, http_desk_streams.specs.claim.Bodies.{plans_body, created_body, retired_body, error_body, refusal_body}}
use Rattle.http_wire.specs.{claim.Answer.answer_text, declared.response.ContentType.{ContentType, TheVariants.{Json, PlainText}}, intake.declared.bad_request.BadRequest.BadRequest}
use Rattle.desk_model.specs.declared.reply.Reply.TheVariants as reply
use Rattle.http_wire.specs.intake.declared.bad_request.BadRequest.TheVariants as fault
use Rattle.http_desk_routes.specs.declared.order.Error.TheVariants as error

-- what an answer says, whichever request it is for
pub record Message : Type 0 where
  pub status : ℕ
  pub kind : ContentType
  pub allow : Option (List ℕ)
  pub body : List ℕ

-- its bytes: whether the connection closes after it, and whether its body is left out
abbrev pub bytes_of : (closes head_only : Bool) → Message → List ℕ
bytes_of closes head_only m = answer_text m.status m.kind m.allow closes head_only m.body

abbrev pub saying : ℕ → ContentType → List ℕ → Message
saying n type text = record { status = n; kind = type; allow = None; body = text }

abbrev pub memory_message : Message
memory_message = saying 503 Json (error_body (codes "Memory"))

-- memory for an answer was refused; the connection closes
abbrev pub memory_text : (head_only : Bool) → List ℕ
memory_text head_only = bytes_of true head_only memory_message

abbrev pub refusal_status : Refusal → ℕ
refusal_status NoPlan = 404
refusal_status NoRevision = 404
refusal_status PlanExists = 409
refusal_status (Stale current) = 409
refusal_status (BadBody code line) = 422
refusal_status (NotWholeCounty county) = 422
refusal_status BadCompanion = 422
refusal_status Limit = 422
refusal_status Full = 507
refusal_status Memory = 503
refusal_status Halted = 503
refusal_status NotSealed = 409

-- only the answer that memory was refused closes the connection
abbrev pub refusal_closes : Refusal → Bool
refusal_closes Memory = true
refusal_closes NoPlan = false
refusal_closes NoRevision = false
refusal_closes PlanExists = false
refusal_closes (Stale current) = false
refusal_closes (BadBody code line) = false
refusal_closes (NotWholeCounty county) = false
refusal_closes BadCompanion = false
refusal_closes Limit = false
refusal_closes Full = false
refusal_closes Halted = false
refusal_closes NotSealed = false

-- the answer to a reply
abbrev pub message_of : Reply → Message
message_of (reply.Created name revisions) = saying 201 Json (created_body name revisions)
message_of (reply.Retired name) = saying 200 Json (retired_body name)
message_of (reply.Plans rows) = saying 200 Json (plans_body rows)
message_of (reply.Blocks text) = saying 200 PlainText text
message_of (reply.Baf text) = saying 200 PlainText text
message_of (reply.Audited text) = saying 200 Json text
message_of (reply.Refused refusal) = saying (refusal_status refusal) Json (refusal_body refusal)

-- whether a reply itself closes the connection
abbrev pub closes_after : Reply → Bool
closes_after (reply.Created name revisions) = false
closes_after (reply.Retired name) = false
closes_after (reply.Plans rows) = false
closes_after (reply.Blocks text) = false
closes_after (reply.Baf text) = false
closes_after (reply.Audited text) = false
closes_after (reply.Refused refusal) = refusal_closes refusal

abbrev pub error_name : Error → List ℕ
error_name error.UnknownMethod = codes "UnknownMethod"
error_name error.NoRoute = codes "NoRoute"
error_name (error.MethodNotAllowed methods) = codes "MethodNotAllowed"
error_name error.BadName = codes "BadName"
error_name error.BadNumber = codes "BadNumber"
error_name error.BadQuery = codes "BadQuery"

abbrev pub error_status : Error → ℕ
error_status error.UnknownMethod = 501
error_status error.NoRoute = 404
error_status (error.MethodNotAllowed methods) = 405
error_status error.BadName = 400
error_status error.BadNumber = 400
error_status error.BadQuery = 400

-- only the answer that the page has other methods names them
abbrev pub error_allow : Error → Option Methods
error_allow error.UnknownMethod = None
error_allow error.NoRoute = None
error_allow (error.MethodNotAllowed methods) = Some methods
error_allow error.BadName = None
error_allow error.BadNumber = None
error_allow error.BadQuery = None

-- the answer to a whole request that asks for nothing
abbrev pub error_message : Error → Message
error_message e = record { status = error_status e; kind = Json; allow = option_map methods_text (error_allow e); body = error_body (error_name e) }

abbrev pub fault_name : BadRequest → List ℕ
fault_name fault.BadHead = codes "BadHead"
fault_name fault.HeadTooLarge = codes "HeadTooLarge"
fault_name fault.BadHost = codes "BadHost"
fault_name fault.BadLength = codes "BadLength"
fault_name fault.BadCoding = codes "BadCoding"
fault_name fault.BodyTooLarge = codes "BodyTooLarge"
fault_name fault.BadTarget = codes "BadTarget"
fault_name fault.BadChunk = codes "BadChunk"

abbrev pub fault_status : BadRequest → ℕ
fault_status fault.BadHead = 400
fault_status fault.HeadTooLarge = 431
fault_status fault.BadHost = 400
fault_status fault.BadLength = 400
fault_status fault.BadCoding = 501
fault_status fault.BodyTooLarge = 413
fault_status fault.BadTarget = 400
fault_status fault.BadChunk = 400

-- the answer to a fault of the prefix; the connection closes
abbrev pub fault_message : BadRequest → Message
fault_message f = saying (fault_status f) Json (error_body (fault_name f))

-- memory may be wanting for the text of an answer: only the list of plans takes any, since the other long texts come whole and
-- the short ones have room that was made first
abbrev pub MayStarve : Reply → Type 0
MayStarve (reply.Plans rows) = ⊤
MayStarve _ = ⊥

-- an answer to a reply, for a request that asks to close or not: its own, or that memory is wanting
abbrev pub Tells : Reply → (closing head_only : Bool) → (text : List ℕ) → (shut : Bool) → Type 0
Tells r closing head_only text shut =
    ((text ≡ bytes_of (closes_after r || closing) head_only (message_of r)) × (shut ≡ (closes_after r || closing)))
    ⊎ (MayStarve r × (text ≡ memory_text head_only) × (shut ≡ true))
