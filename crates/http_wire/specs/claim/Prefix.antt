-- What stands at the start of the input: a request, a fault, or not enough to tell (RFC 9112, sections 2 to 6).
use Rattle.{std.specs.{Char.is_ascii_digit, List.{filter_map, flat_map, list_all}, Str.bytes_eq}, http_wire.specs.claim.Connection.{asks_to_close, parts, ends_in}}
use Rattle.std.specs.Prelude.{◌≡◌, ℕ, ◌+◌, ◌-◌, ◌*◌, ◌<◌, ◌≤◌, ◌⊎◌, Bool, false, not, ◌&&◌, ◌||◌, if◌then◌else◌, ◌==◌, nat_lt, nat_le, List, [], ◌∷◌, ◌++◌, map, length, Option, Some, None, Result, Ok, Err, codes, fold}
use Rattle.{http_wire.specs.{claim.Target.{is_word, target_of}, declared.head.Framing.{Framing, TheVariants.{Sized, Chunked}}}, http_wire_intake.specs.claim.Lines.head_lines}
use Rattle.http_wire_intake.specs.claim.{Chunks.{HasChunks, LacksChunks, HasChunkFault}, Limits.{head_limit, field_limit, body_limit, window}}
use Rattle.http_wire_intake.specs.declared.bad_request.BadRequest.{BadRequest, TheVariants.{BadHead, HeadTooLarge, BadHost, BadLength, BadCoding, BodyTooLarge, BadTarget}}
use Rattle.httparse.specs.Grammar.{RequestHead, ReadsRequest, NeverHasRequest, HasNoRequest, MayBecomeRequest, EndsInTarget, print_request}
use Rattle.httparse.specs.Spans.{name_and_value, RequestOverflows}

-- a field's value, if it has that name
abbrev pub named_value : List ℕ → List ℕ × List ℕ → Option (List ℕ)
named_value word field = if is_word word field.0 then Some field.1 else None

-- the values of the fields of that name, in order
abbrev pub values : List ℕ → List (List ℕ × List ℕ) → List (List ℕ)
values name fields = filter_map (named_value name) fields

-- the number that digits spell
abbrev pub number_of : List ℕ → ℕ
number_of bytes = fold (λ n b. n * 10 + (b - 48)) 0 bytes

-- 1 to 20 digits
abbrev pub is_length : List ℕ → Bool
is_length value = nat_le 1 (length value) && nat_le (length value) 20 && list_all is_ascii_digit value

-- what one Content-Length line says (RFC 9112, section 6.2)
abbrev pub length_of : List ℕ → Result ℕ BadRequest
length_of value =
    if not (is_length value) then Err BadLength
    else if nat_lt body_limit (number_of value) then Err BodyTooLarge
    else Ok (number_of value)

-- what all of them say: without one there is no body
abbrev pub lengths_of : List (List ℕ) → Result ℕ BadRequest
lengths_of [] = Ok 0
lengths_of (value ∷ []) = length_of value
lengths_of (value ∷ other ∷ more) = Err BadLength

abbrev pub sized : Result ℕ BadRequest → Result Framing BadRequest
sized (Ok n) = Ok (Sized n)
sized (Err f) = Err f

-- what the codings of all Transfer-Encoding lines say: `chunked` comes last, and nothing before it (RFC 9112, section 6.1)
abbrev pub coded : List (List ℕ) → Result Framing BadRequest
coded codings =
    if not (ends_in (codes "chunked") codings) then Err BadLength
    else if length codings == 1 then Ok Chunked
    else Err BadCoding

-- how the body is framed, by the Transfer-Encoding and the Content-Length lines (RFC 9112, section 6.3); HTTP/1.0 has no coding
abbrev pub framing_of : ℕ → List (List ℕ) → List (List ℕ) → Result Framing BadRequest
framing_of minor [] lengths = sized (lengths_of lengths)
framing_of minor (value ∷ values) [] = if minor == 0 then Err BadLength else coded (flat_map parts (value ∷ values))
framing_of minor (value ∷ values) (length ∷ lengths) = Err BadLength

-- one Host line, which HTTP/1.0 may leave out (RFC 9112, section 3.2)
abbrev pub is_host_count : ℕ → ℕ → Bool
is_host_count minor hosts = hosts == 1 || (minor == 0 && hosts == 0)

-- the Host line, then the body's framing
abbrev pub judged : ℕ → List (List ℕ × List ℕ) → Result Framing BadRequest
judged minor fields =
    if not (is_host_count minor (length (values (codes "host") fields))) then Err BadHost
    else framing_of minor (values (codes "transfer-encoding") fields) (values (codes "content-length") fields)

-- how the body that the head announces is framed, or the first fault of what it says
abbrev pub judged_head : RequestHead → Result Framing BadRequest
judged_head h = judged h.minor (map name_and_value h.fields)

-- the connection closes after the answer to a request of this head
abbrev pub closes_after : RequestHead → Bool
closes_after h = asks_to_close h.minor (map name_and_value h.fields)

-- the answer to a request of this method has no body (RFC 9110, section 9.3.2)
abbrev pub is_head : List ℕ → Bool
is_head method = bytes_eq method (codes "HEAD")

-- the head h, within the limits, stands at the start
pub record HasHead (input : List ℕ) (h : RequestHead) (rest : List ℕ) : Type 0 where
  pub reads : ReadsRequest input h rest
  pub short : length (print_request h) ≤ head_limit
  pub few : length h.fields ≤ field_limit

-- the body stands at the start, as it is framed
abbrev pub HasBody : Framing → List ℕ → List ℕ → List ℕ → Type 0
HasBody (Sized n) text body rest = (text ≡ body ++ rest) × (length body ≡ n)
HasBody Chunked text body rest = HasChunks 0 text body rest

-- not all of it has come, and it has no fault
abbrev pub Lacks : Framing → List ℕ → Type 0
Lacks (Sized n) text = length text < n
Lacks Chunked text = LacksChunks 0 text

-- what has come of it has this fault
abbrev pub IsFaulty : Framing → List ℕ → BadRequest → Type 0
IsFaulty (Sized n) text f = ⊥
IsFaulty Chunked text f = HasChunkFault 0 text f

-- a head that may stand, and its body
pub record HasMessage (input : List ℕ) (h : RequestHead) (body rest : List ℕ) : Type 0 where
  pub text : List ℕ
  pub head : HasHead input h text
  pub framing : Framing
  pub judges : judged_head h ≡ Ok framing
  pub stands : HasBody framing text body rest

-- a whole request, and the path and query that it asks for
pub record HasRequest (input : List ℕ) (h : RequestHead) (target body rest : List ℕ) : Type 0 where
  pub message : HasMessage input h body rest
  pub target_is : target_of h.target ≡ Some target

-- none of the first 16,384 bytes ends a head, though more bytes could
pub record IsTooLong (input : List ℕ) : Type 0 where
  pub long : head_limit ≤ length input
  pub none : HasNoRequest (window input)
  pub goes_on : MayBecomeRequest (window input)

-- the request line and 65 header lines have come before an empty line, and no head has at most 64
pub record HasTooManyLines (input : List ℕ) : Type 0 where
  pub lines : field_limit + 2 ≤ head_lines (window input)
  pub exceeds : RequestOverflows field_limit (window input)

-- whatever follows, no head stands at the start. That bytes which end in a target are text shows only at its end
pub record IsNoHead (input : List ℕ) : Type 0 where
  pub never : NeverHasRequest (window input)
  pub past_target : ¬ (EndsInTarget (window input))

-- the first bytes have this fault, and are no head
abbrev pub RefusesBytes : List ℕ → BadRequest → Type 0
RefusesBytes input BadHead = IsNoHead input
RefusesBytes input HeadTooLarge = IsTooLong input ⊎ HasTooManyLines input
RefusesBytes input _ = ⊥

-- a head stands at the start and says what has this fault; head_only tells whether the answer has no body
pub record RefusesHead (input : List ℕ) (f : BadRequest) (head_only : Bool) : Type 0 where
  pub head : RequestHead
  pub rest : List ℕ
  pub stands : HasHead input head rest
  pub judges : judged_head head ≡ Err f
  pub shown : head_only ≡ is_head head.method

-- a head stands at the start, and what follows it has this fault of a body
pub record RefusesBody (input : List ℕ) (f : BadRequest) (head_only : Bool) : Type 0 where
  pub head : RequestHead
  pub rest : List ℕ
  pub framing : Framing
  pub stands : HasHead input head rest
  pub judges : judged_head head ≡ Ok framing
  pub faulty : IsFaulty framing rest f
  pub shown : head_only ≡ is_head head.method

-- a head and its body stand at the start, and the target has this fault
pub record RefusesTarget (input : List ℕ) (f : BadRequest) (head_only : Bool) : Type 0 where
  pub head : RequestHead
  pub body : List ℕ
  pub rest : List ℕ
  pub message : HasMessage input head body rest
  pub bad : target_of head.target ≡ None
  pub named : f ≡ BadTarget
  pub shown : head_only ≡ is_head head.method

-- Whatever follows, the prefix of the input has this fault. The answer is without its body exactly where a head of the
-- method HEAD has come
abbrev pub HasFault : List ℕ → BadRequest → Bool → Type 0
HasFault input f head_only = (RefusesBytes input f × (head_only ≡ false)) ⊎ (RefusesHead input f head_only ⊎ (RefusesBody input f head_only ⊎ RefusesTarget input f head_only))

-- memory is wanting for the request whose head, which may stand, is at the start: a head that is refused takes none
pub record IsOutOfMemory (input : List ℕ) (head_only : Bool) : Type 0 where
  pub head : RequestHead
  pub rest : List ℕ
  pub framing : Framing
  pub stands : HasHead input head rest
  pub judges : judged_head head ≡ Ok framing
  pub shown : head_only ≡ is_head head.method

-- no head yet, and one may still come
pub record IsOpen (input : List ℕ) : Type 0 where
  pub short : length input < head_limit
  pub none : HasNoRequest (window input)
  pub goes_on : MayBecomeRequest (window input)
  pub few : head_lines (window input) < field_limit + 2

-- a head, and not all of its body
pub record LacksBody (input : List ℕ) : Type 0 where
  pub head : RequestHead
  pub rest : List ℕ
  pub framing : Framing
  pub stands : HasHead input head rest
  pub judges : judged_head head ≡ Ok framing
  pub lacks : Lacks framing rest

-- no whole request yet, and no fault
abbrev pub IsIncomplete : List ℕ → Type 0
IsIncomplete input = IsOpen input ⊎ LacksBody input
