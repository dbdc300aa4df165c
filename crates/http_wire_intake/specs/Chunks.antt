-- What no promise rests on, beside claim/Chunks.antt.
use Rattle.std.specs.Prelude.{◌≡◌, ◌⊎◌, ℕ, ◌+◌, ◌≤◌, List, [], ◌++◌}
use Rattle.http_wire_intake.specs.claim.{Chunks.{HasChunkFault, HasChunks, HasTooManyTrailers, LacksChunks, ReachesTrailers}, Limits.{body_limit, window}}
use Rattle.{http_wire_intake.specs.declared.bad_request.BadRequest.BadRequest, httparse.specs.Grammar.NeverHasSection}

-- more than 64 lines of trailers have come, and no trailers can stand, whatever follows
pub record HasTwoFaults (n : ℕ) (input : List ℕ) : Type 0 where
  pub trailers : List ℕ
  pub reaches : ReachesTrailers n input trailers
  pub many : HasTooManyTrailers trailers
  pub never : NeverHasSection (window trailers)

-- after n bytes of the body: no whole chunks, no fault, and not incomplete either. The law is that there are no such bytes
pub record AreNoChunks (n : ℕ) (input : List ℕ) : Type 0 where
  pub whole : (body rest : List ℕ) → HasChunks n input body rest → ⊥
  pub fault : (f : BadRequest) → HasChunkFault n input f → ⊥
  pub lack : LacksChunks n input → ⊥

-- After as many bytes as a body may have, chunks are exactly one thing: their body and what follows, one fault, or incomplete; and a
-- body and a fault stay, whatever follows. Where more than 64 lines of trailers have come and no trailers can stand, either of these
-- faults may be told
pub record ChunkLaw : Type 0 where
  pub one_body : (n : ℕ) (input b c r q : List ℕ) → HasChunks n input b r → HasChunks n input c q → (b ≡ c) × (r ≡ q)
  pub one_fault : (n : ℕ) (input : List ℕ) (f g : BadRequest) → n ≤ body_limit
      → HasChunkFault n input f → HasChunkFault n input g → (f ≡ g) ⊎ HasTwoFaults n input
  pub body_or_fault : (n : ℕ) (input b r : List ℕ) (f : BadRequest) → n ≤ body_limit → HasChunks n input b r → HasChunkFault n input f → ⊥
  pub body_or_lack : (n : ℕ) (input b r : List ℕ) → HasChunks n input b r → LacksChunks n input → ⊥
  pub fault_or_lack : (n : ℕ) (input : List ℕ) (f : BadRequest) → n ≤ body_limit → HasChunkFault n input f → LacksChunks n input → ⊥
  pub some_case : (n : ℕ) (input : List ℕ) → n ≤ body_limit → AreNoChunks n input → ⊥
  pub nothing_lacks : (n : ℕ) → LacksChunks n []
  pub body_stays : (n : ℕ) (input b r more : List ℕ) → HasChunks n input b r → HasChunks n (input ++ more) b (r ++ more)
  pub fault_stays : (n : ℕ) (input : List ℕ) (f : BadRequest) (more : List ℕ) → HasChunkFault n input f → HasChunkFault n (input ++ more) f
  -- the prefix of the input that the chunks are
  pub body_prefix : (n : ℕ) (input b r : List ℕ) → HasChunks n input b r
      → (prefix : List ℕ) × (input ≡ prefix ++ r) × ((more : List ℕ) → HasChunks n (prefix ++ more) b more)
