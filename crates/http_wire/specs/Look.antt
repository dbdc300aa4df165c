-- What a look at the bytes tells.
use Rattle.std.specs.Prelude.{◌≡◌, ℕ, ◌<◌, ◌≤◌, List, map, length, drop, All, Ok}
use Rattle.http_wire.specs.{Prefix.RefusesPrefix, claim.{Interim.asks_by, Prefix.{HasHead, IsOpen, judged_head, closes_after, is_head}}, declared.look.Head.Head}
use Rattle.{http_wire.specs.declared.look.HeadRefusal.HeadRefusal, http_wire_intake.specs.declared.sought.Seen.{Seen, TheVariants.{Found, Refused, Incomplete}}}
use Rattle.httparse.specs.{Grammar.RequestHead, Spans.{header_bytes, name_and_value, span_bytes, IsWithin, IsHeaderWithin}, declared.spans.HeaderSpan.HeaderSpan}
use Rattle.httparse.specs.declared.spans.RequestSpans.{RequestSpans}

-- the head that the parser's spans tell stands at the start of bytes, and part is as much of them as was read
pub record IsParsed (bytes part : List ℕ) (headers : List HeaderSpan) (s : RequestSpans) : Type 0 where
  pub head : RequestHead
  pub stands : HasHead bytes head (drop s.len bytes)
  pub within : s.len ≤ length bytes
  pub some : 0 < s.len
  pub version : s.version ≡ head.minor
  pub method : span_bytes bytes s.method ≡ head.method
  pub target : span_bytes bytes s.path ≡ head.target
  pub fields : map (header_bytes part) headers ≡ map name_and_value head.fields
  pub method_fits : IsWithin (length bytes) s.method
  pub target_fits : IsWithin (length bytes) s.path
  pub headers_fit : All (IsHeaderWithin (length part)) headers

-- a head stands at the start, and this is where its parts are
pub record IsFound (bytes : List ℕ) (found : Head) : Type 0 where
  pub head : RequestHead
  pub stands : HasHead bytes head (drop found.len bytes)
  pub judges : judged_head head ≡ Ok found.framing
  pub within : found.len ≤ length bytes
  pub some : 0 < found.len
  pub method : span_bytes bytes found.method ≡ head.method
  pub target : span_bytes bytes found.target ≡ head.target
  pub method_fits : IsWithin (length bytes) found.method
  pub target_fits : IsWithin (length bytes) found.target
  pub closes : found.closes ≡ closes_after head
  pub shown : found.head_only ≡ is_head head.method
  pub expects : found.expects ≡ asks_by (Ok found.framing) head

-- what a look for a head tells
abbrev pub Sees : List ℕ → Seen Head HeadRefusal → Type 0
Sees bytes (Found found) = IsFound bytes found
Sees bytes (Refused refusal) = RefusesPrefix bytes refusal.fault refusal.head_only
Sees bytes Incomplete = IsOpen bytes
