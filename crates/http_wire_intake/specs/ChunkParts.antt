-- What looks for the parts of a body in chunks tell, and what reading them gives.
use Rattle.std.specs.Prelude.{◌≡◌, ℕ, ◌+◌, ◌<◌, ◌≤◌, ◌⊎◌, List, [], ◌∷◌, ◌++◌, length, drop, Option, Some, None, Result, Ok, Err, ⊤}
use Rattle.http_wire_intake.specs.{Chunked.LacksChunksAtEnd, declared.{bad_request.BadRequest.{BadRequest, TheVariants.BadChunk}, chunk_line.FoundLine.FoundLine, sought.Seen.Seen}}
use Rattle.http_wire_intake.specs.claim.Chunks.{HasLine, HasChunk, HasChunks, HasChunkFault, HasTrailers, LacksChunks, RefusesLine, RefusesTrailers, IsNoEnd, IsOpenLine, IsOpenEnd, AreOpenTrailers}
use Rattle.http_wire_intake.specs.declared.{chunks.Chunked.Chunked, fault.WireFault.WireFault, sought.Seen.TheVariants.{Found, Refused, Incomplete}}
use Rattle.httparse.specs.Grammar.{ChunkLine, chunk_size}
use Rattle.http_wire_intake.specs.declared.chunks.Chunked.TheVariants as came
use Rattle.http_wire_intake.specs.declared.fault.WireFault.TheVariants as fault

-- the line of a chunk stands at the start, and this is its length and its size
pub record IsLineAt (bytes : List ℕ) (found : FoundLine) : Type 0 where
  pub line : ChunkLine
  pub stands : HasLine bytes line (drop found.len bytes)
  pub within : found.len ≤ length bytes
  pub some : 0 < found.len
  pub size : found.size ≡ chunk_size line

-- what a look for a chunk's line tells
abbrev pub SeesLine : List ℕ → Seen FoundLine BadRequest → Type 0
SeesLine bytes (Found found) = IsLineAt bytes found
SeesLine bytes (Refused f) = (f ≡ BadChunk) × RefusesLine bytes
SeesLine bytes Incomplete = IsOpenLine bytes

-- what a look for CR LF tells
abbrev pub SeesEnd : List ℕ → Seen ℕ BadRequest → Type 0
SeesEnd bytes (Found n) = (n ≤ length bytes) × (bytes ≡ 13 ∷ 10 ∷ drop n bytes)
SeesEnd bytes (Refused f) = (f ≡ BadChunk) × IsNoEnd bytes
SeesEnd bytes Incomplete = IsOpenEnd bytes

-- what a look for trailers tells
abbrev pub SeesTrailers : List ℕ → Seen ℕ BadRequest → Type 0
SeesTrailers bytes (Found n) = (n ≤ length bytes) × HasTrailers bytes (drop n bytes)
SeesTrailers bytes (Refused f) = RefusesTrailers bytes f
SeesTrailers bytes Incomplete = AreOpenTrailers bytes

-- what reading a part tells: it is whole, or lacking, or has a fault
abbrev pub PartCame : Type 0 → Type 0 → (BadRequest → Type 0) → Result Chunked WireFault → Type 0
PartCame whole lacks refuses (Ok came.Whole) = whole
PartCame whole lacks refuses (Ok came.Lacking) = lacks
PartCame whole lacks refuses (Ok (came.Refused f)) = refuses f
PartCame whole lacks refuses (Err fault.Read) = lacks
PartCame whole lacks refuses (Err fault.TurnLimit) = lacks
PartCame whole lacks refuses (Err fault.Memory) = ⊤

-- CR LF, and what follows it
abbrev pub EndCame : List ℕ → Result Chunked WireFault → List ℕ → Type 0
EndCame input r rest = PartCame (input ≡ 13 ∷ 10 ∷ rest) (IsOpenEnd input) (λ f. (f ≡ BadChunk) × IsNoEnd input) r

-- trailers, and what follows them
abbrev pub TrailersCame : List ℕ → Result Chunked WireFault → List ℕ → Type 0
TrailersCame input r rest = PartCame (HasTrailers input rest) (AreOpenTrailers input) (RefusesTrailers input) r

-- bytes at the start of the input make n of the old ones, and after follows them
pub record HasData (old : List ℕ) (n : ℕ) (input after : List ℕ) : Type 0 where
  pub bytes : List ℕ
  pub stands : input ≡ bytes ++ after
  pub size : length old + length bytes ≡ n

-- the same, with CR LF after them, and the new bytes are all of them
pub record HasWholeData (old : List ℕ) (n : ℕ) (input new rest : List ℕ) : Type 0 where
  pub stands : HasData old n input (13 ∷ 10 ∷ rest)
  pub grown : new ≡ old ++ stands.bytes

-- the input ends before that
abbrev pub LacksData : List ℕ → ℕ → List ℕ → Type 0
LacksData old n input = (length old + length input < n) ⊎ ((after : List ℕ) × HasData old n input after × IsOpenEnd after)

-- the data of a chunk after the old bytes, and CR LF; or something else is after the bytes
abbrev pub DataCame : List ℕ → ℕ → List ℕ → Result Chunked WireFault → List ℕ → List ℕ → Type 0
DataCame old n input r new rest = PartCame (HasWholeData old n input new rest) (LacksData old n input) (λ f. (f ≡ BadChunk) × ((after : List ℕ) × HasData old n input after × IsNoEnd after)) r

-- the next chunk, or None in place of what ends the chunks: a chunk of data after the old bytes
abbrev pub StepCame : List ℕ → List ℕ → Result (Option Chunked) WireFault → List ℕ → List ℕ → Type 0
StepCame old input (Ok None) new rest = (l : ChunkLine) × (bytes : List ℕ) × HasChunk (length old) input l bytes rest × (new ≡ old ++ bytes)
StepCame old input (Ok (Some c)) new rest = PartCame (HasChunks (length old) input [] rest × (new ≡ old)) (LacksChunks (length old) input) (HasChunkFault (length old) input) (Ok c)
StepCame old input (Err e) new rest = PartCame ⊤ (LacksChunks (length old) input) (λ f. ⊤) (Err e)

-- what the last chunk comes to once its trailers were read so
abbrev pub after_trailers : Result Chunked WireFault → Result (Option Chunked) WireFault
after_trailers (Ok c) = Ok (Some c)
after_trailers (Err e) = Err e

-- what a chunk comes to once its data was read so
abbrev pub after_data : Result Chunked WireFault → Result (Option Chunked) WireFault
after_data (Ok came.Whole) = Ok None
after_data (Ok came.Lacking) = Ok (Some came.Lacking)
after_data (Ok (came.Refused f)) = Ok (Some (came.Refused f))
after_data (Err e) = Err e

-- less than the whole is told only at the reader's end
abbrev pub StepLacksAtEnd : Option (List ℕ) → Result (Option Chunked) WireFault → Type 0
StepLacksAtEnd left (Ok None) = ⊤
StepLacksAtEnd left (Ok (Some c)) = LacksChunksAtEnd left (Ok c)
StepLacksAtEnd left (Err e) = ⊤

-- it never grows, and each chunk takes some of it
abbrev pub TakesChunk : Result (Option Chunked) WireFault → ℕ → ℕ → Type 0
TakesChunk (Ok None) old new = new < old
TakesChunk (Ok (Some c)) old new = new ≤ old
TakesChunk (Err e) old new = new ≤ old
