-- The interim answer that asks for a body (RFC 9110, sections 10.1.1 and 15.2.1).
use Rattle.std.specs.{List.list_any, Prelude.{◌≡◌, ◌⊎◌, ℕ, ◌==◌, Bool, true, false, not, ◌&&◌, if◌then◌else◌, List, [], ◌++◌, map, All, Result, Ok, Err, codes}}
use Rattle.http_wire.specs.{claim.{Prefix.{HasHead, IsOpen, judged_head}, Target.is_word}, declared.head.Framing.{Framing, TheVariants.{Sized, Chunked}}}
use Rattle.{http_wire_intake.specs.{claim.Lines.IsWithinLine, declared.bad_request.BadRequest.BadRequest}, httparse.specs.{Grammar.RequestHead, Spans.name_and_value}}

abbrev pub continue_line : List ℕ
continue_line = codes "HTTP/1.1 100 Continue\r\n\r\n"

-- the line, where it is asked for
abbrev pub continue_text : Bool → List ℕ
continue_text asked = if asked then continue_line else []

-- an Expect line whose whole value is 100-continue
abbrev pub is_expecting : List ℕ × List ℕ → Bool
is_expecting field = is_word (codes "expect") field.0 && is_word (codes "100-continue") field.1

-- HTTP/1.0 has no such answer
abbrev pub expects_continue : ℕ → List (List ℕ × List ℕ) → Bool
expects_continue minor fields = not (minor == 0) && list_any is_expecting fields

-- a body of no bytes is none, but one in chunks always comes
abbrev pub has_body : Framing → Bool
has_body (Sized n) = not (n == 0)
has_body Chunked = true

-- a head that may stand asks for the line where it expects it and has a body
abbrev pub asks_by : Result Framing BadRequest → RequestHead → Bool
asks_by (Ok framing) h = has_body framing && expects_continue h.minor (map name_and_value h.fields)
asks_by (Err fault) h = false

abbrev pub asks_to_continue : RequestHead → Bool
asks_to_continue h = asks_by (judged_head h) h

-- a head stands at the start, and this is what is written before its body
pub record Asks (input text : List ℕ) : Type 0 where
  pub head : RequestHead
  pub rest : List ℕ
  pub stands : HasHead input head rest
  pub asked : text ≡ continue_text (asks_to_continue head)

-- no head stands at the start, and nothing is written
pub record AsksNothing (input text : List ℕ) : Type 0 where
  pub none : (h : RequestHead) (rest : List ℕ) → HasHead input h rest → ⊥
  pub nothing : text ≡ []

-- what is written before the answer to this prefix
abbrev pub Interim : List ℕ → List ℕ → Type 0
Interim input text = Asks input text ⊎ AsksNothing input text

-- Reading was cut short within a line of a head, which was last looked at before that line: no head yet, and no line ends after it.
-- What stands there may be no head, which would be told at the line's end
pub record IsCutHead (input : List ℕ) : Type 0 where
  pub head : List ℕ
  pub unread : List ℕ
  pub read : input ≡ head ++ unread
  pub lacks : IsOpen head
  pub line : All IsWithinLine unread
