-- The prefix of an input is one thing alone.
use Rattle.std.specs.Prelude.{◌≡◌, ◌⊎◌, ℕ, Bool, true, false, List, [], ◌++◌, codes}
use Rattle.{http_wire.specs.claim.Prefix.{HasHead, HasRequest, HasFault, closes_after, IsIncomplete, HasTooManyLines, IsNoHead}, httparse.specs.Grammar.RequestHead}
use Rattle.http_wire_intake.specs.declared.bad_request.BadRequest.{BadRequest, TheVariants.{BadHost, BadLength}}
use Rattle.http_wire_intake.specs.Chunks as chunks

-- more than 64 lines have come, and no head can stand, whatever follows
pub record HasTwoHeadFaults (input : List ℕ) : Type 0 where
  pub many : HasTooManyLines input
  pub never : IsNoHead input

-- the same of the trailers after a body in chunks
pub record HasTwoBodyFaults (input : List ℕ) : Type 0 where
  pub head : RequestHead
  pub rest : List ℕ
  pub stands : HasHead input head rest
  pub two : chunks.HasTwoFaults 0 rest

abbrev pub HasTwoFaults : List ℕ → Type 0
HasTwoFaults input = HasTwoHeadFaults input ⊎ HasTwoBodyFaults input

-- no request, no fault, and not incomplete either. The law is that there is no such prefix
pub record IsNoPrefix (input : List ℕ) : Type 0 where
  pub request : (h : RequestHead) (t b r : List ℕ) → HasRequest input h t b r → ⊥
  pub fault : (f : BadRequest) (head_only : Bool) → HasFault input f head_only → ⊥
  pub incomplete : IsIncomplete input → ⊥

-- Every prefix is exactly one of these: a request, one fault, or incomplete; reading tells which. Where more than 64 lines of a head
-- or of trailers have come before an empty one, and no head or trailers can stand whatever follows, either of these faults may be told.
pub record PrefixLaw : Type 0 where
  pub one_request : (input : List ℕ) (h k : RequestHead) (t u b c r q : List ℕ)
      → HasRequest input h t b r → HasRequest input k u c q → (h ≡ k) × (t ≡ u) × (b ≡ c) × (r ≡ q)
  pub one_fault : (input : List ℕ) (f g : BadRequest) (a b : Bool) → HasFault input f a → HasFault input g b → ((f ≡ g) × (a ≡ b)) ⊎ HasTwoFaults input
  pub request_or_fault : (input : List ℕ) (h : RequestHead) (t b r : List ℕ) (f : BadRequest) (head_only : Bool)
      → HasRequest input h t b r → HasFault input f head_only → ⊥
  pub request_or_incomplete : (input : List ℕ) (h : RequestHead) (t b r : List ℕ) → HasRequest input h t b r → IsIncomplete input → ⊥
  pub fault_or_incomplete : (input : List ℕ) (f : BadRequest) (head_only : Bool) → HasFault input f head_only → IsIncomplete input → ⊥
  pub some_case : (input : List ℕ) → IsNoPrefix input → ⊥
  -- and what is told of the bytes so far stays, whatever follows
  pub request_stays : (input : List ℕ) (h : RequestHead) (t b r more : List ℕ)
      → HasRequest input h t b r → HasRequest (input ++ more) h t b (r ++ more)
  -- the prefix of the input that the request is
  pub request_prefix : (input : List ℕ) (h : RequestHead) (t b r : List ℕ) → HasRequest input h t b r
      → (prefix : List ℕ) × (input ≡ prefix ++ r) × ((more : List ℕ) → HasRequest (prefix ++ more) h t b more)
  pub fault_stays : (input : List ℕ) (f : BadRequest) (head_only : Bool) (more : List ℕ) → HasFault input f head_only → HasFault (input ++ more) f head_only

-- worked prefixes
pub record WorkedPrefixes : Type 0 where
  pub plans : (h : RequestHead) × (h.method ≡ codes "GET") × HasRequest (codes "GET /plans HTTP/1.1\r\nHost: d\r\n\r\n") h (codes "/plans") [] []
  -- an absolute target without a path asks for the slash; HTTP/1.0 needs no Host line, and closes
  pub absolute : (h : RequestHead) × (h.method ≡ codes "HEAD") × (closes_after h ≡ true) × HasRequest (codes "HEAD http://d?x=1 HTTP/1.0\r\n\r\n") h (codes "/?x=1") [] []
  pub no_host : HasFault (codes "GET /plans HTTP/1.1\r\n\r\n") BadHost false
  pub coded : HasFault (codes "PUT /plans/a HTTP/1.1\r\nHost: d\r\nContent-Length: 1\r\nTransfer-Encoding: chunked\r\n\r\n") BadLength false
