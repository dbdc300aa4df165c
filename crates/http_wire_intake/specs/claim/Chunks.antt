-- A body in chunks (RFC 9112, section 7.1), over all the bytes after a head.
use Rattle.std.specs.Prelude.{◌≡◌, ◌≢◌, ◌⊎◌, ℕ, ◌+◌, ◌<◌, ◌≤◌, List, [], ◌∷◌, ◌++◌, length, take}
use Rattle.http_wire_intake.specs.{claim.{Limits.{head_limit, field_limit, body_limit, window}, Lines.section_lines}, declared.bad_request.BadRequest.BadRequest}
use Rattle.{http_wire_intake.specs.declared.bad_request.BadRequest.TheVariants.{BadHead, HeadTooLarge, BodyTooLarge, BadChunk}, httparse.specs.Spans.SectionOverflows}
use Rattle.httparse.specs.Grammar.{LineEnd, Field, ReadsSection, HasNoSection, NeverHasSection, MayBecomeSection, print_section, ChunkLine, ReadsChunkLine, HasNoChunkLine, NeverHasChunkLine, MayBecomeChunkLine, print_chunk_line, chunk_size}

-- a chunk's line has this many bytes at most, its CR LF among them
abbrev pub line_limit : ℕ
line_limit = 256

-- the bytes in which a chunk's line is looked for
abbrev pub line_window : List ℕ → List ℕ
line_window input = take line_limit input

-- the line l, within its limit, stands at the start
pub record HasLine (input : List ℕ) (l : ChunkLine) (rest : List ℕ) : Type 0 where
  pub reads : ReadsChunkLine input l rest
  pub short : length (print_chunk_line l) ≤ line_limit

-- trailers, within the limits of a head, and the empty line that ends them (RFC 9112, section 7.1.2)
pub record HasTrailers (input rest : List ℕ) : Type 0 where
  pub fields : List Field
  pub last : LineEnd
  pub reads : ReadsSection input fields last rest
  pub short : length (print_section fields last) ≤ head_limit
  pub few : length fields ≤ field_limit

-- a chunk of data at the start, after n bytes of the body: its line, its data and CR LF; the body keeps its limit
pub record HasChunk (n : ℕ) (input : List ℕ) (l : ChunkLine) (bytes rest : List ℕ) : Type 0 where
  pub line : HasLine input l (bytes ++ 13 ∷ 10 ∷ rest)
  pub some : 0 < chunk_size l
  pub size : length bytes ≡ chunk_size l
  pub within : n + chunk_size l ≤ body_limit

-- the line of the last chunk, which has no data
pub record HasLastLine (input : List ℕ) (l : ChunkLine) (rest : List ℕ) : Type 0 where
  pub line : HasLine input l rest
  pub none : chunk_size l ≡ 0

-- After n bytes of the body, chunks with the rest of it, the last chunk and the trailers stand at the start
pub data HasChunks : ℕ → List ℕ → List ℕ → List ℕ → Type 0 where
  last : (n : ℕ) (input : List ℕ) (l : ChunkLine) (after rest : List ℕ)
      → HasLastLine input l after → HasTrailers after rest → HasChunks n input [] rest
  chunk : (n : ℕ) (input : List ℕ) (l : ChunkLine) (bytes after body rest : List ℕ)
      → HasChunk n input l bytes after → HasChunks (n + chunk_size l) after body rest
      → HasChunks n input (bytes ++ body) rest

-- no line of a chunk can stand at the start: whatever follows, or within its limit
abbrev pub RefusesLine : List ℕ → Type 0
RefusesLine input = NeverHasChunkLine (line_window input) ⊎ ((line_limit ≤ length input) × HasNoChunkLine (line_window input))

-- the bytes are no prefix of CR LF, and have no CR LF at the start
abbrev pub IsNoEnd : List ℕ → Type 0
IsNoEnd [] = ⊥
IsNoEnd (b ∷ []) = b ≢ 13
IsNoEnd (b ∷ c ∷ rest) = (b ≢ 13) ⊎ (c ≢ 10)

-- 65 lines of trailers have come before an empty line, and no trailers have at most 64
pub record HasTooManyTrailers (input : List ℕ) : Type 0 where
  pub lines : field_limit + 1 ≤ section_lines (window input)
  pub exceeds : SectionOverflows field_limit (window input)

-- the first 16,384 bytes end no trailers, though more bytes could
pub record AreTooLong (input : List ℕ) : Type 0 where
  pub long : head_limit ≤ length input
  pub none : HasNoSection (window input)
  pub goes_on : MayBecomeSection (window input)

-- where trailers are looked for, the bytes have this fault
abbrev pub RefusesTrailers : List ℕ → BadRequest → Type 0
RefusesTrailers input BadHead = NeverHasSection (window input)
RefusesTrailers input HeadTooLarge = AreTooLong input ⊎ HasTooManyTrailers input
RefusesTrailers input _ = ⊥

-- the line of a chunk with data that the body has room for
pub record HasDataLine (n : ℕ) (input : List ℕ) (l : ChunkLine) (rest : List ℕ) : Type 0 where
  pub line : HasLine input l rest
  pub some : 0 < chunk_size l
  pub within : n + chunk_size l ≤ body_limit

-- after n bytes of the body, the bytes have this fault, whatever follows
pub data HasChunkFault : ℕ → List ℕ → BadRequest → Type 0 where
  bad_line : (n : ℕ) (input : List ℕ) → RefusesLine input → HasChunkFault n input BadChunk
  too_large : (n : ℕ) (input : List ℕ) (l : ChunkLine) (rest : List ℕ) → HasLine input l rest
      → body_limit < n + chunk_size l → HasChunkFault n input BodyTooLarge
  bad_end : (n : ℕ) (input : List ℕ) (l : ChunkLine) (bytes after : List ℕ) → HasDataLine n input l (bytes ++ after)
      → length bytes ≡ chunk_size l → IsNoEnd after → HasChunkFault n input BadChunk
  bad_trailers : (n : ℕ) (input : List ℕ) (l : ChunkLine) (after : List ℕ) (f : BadRequest)
      → HasLastLine input l after → RefusesTrailers after f → HasChunkFault n input f
  later : (n : ℕ) (input : List ℕ) (l : ChunkLine) (bytes after : List ℕ) (f : BadRequest)
      → HasChunk n input l bytes after → HasChunkFault (n + chunk_size l) after f → HasChunkFault n input f

-- no line yet, and one may still come
pub record IsOpenLine (input : List ℕ) : Type 0 where
  pub short : length input < line_limit
  pub none : HasNoChunkLine input
  pub goes_on : MayBecomeChunkLine input

-- nothing but a prefix of CR LF
abbrev pub IsOpenEnd : List ℕ → Type 0
IsOpenEnd after = (after ≡ []) ⊎ (after ≡ 13 ∷ [])

-- no trailers yet, and some may still come
pub record AreOpenTrailers (input : List ℕ) : Type 0 where
  pub short : length input < head_limit
  pub none : HasNoSection (window input)
  pub goes_on : MayBecomeSection (window input)
  pub few : section_lines (window input) < field_limit + 1

-- after n bytes of the body, no whole chunks and trailers yet, and no fault
pub data LacksChunks : ℕ → List ℕ → Type 0 where
  no_line : (n : ℕ) (input : List ℕ) → IsOpenLine input → LacksChunks n input
  no_data : (n : ℕ) (input : List ℕ) (l : ChunkLine) (rest : List ℕ) → HasDataLine n input l rest → length rest < chunk_size l → LacksChunks n input
  no_end : (n : ℕ) (input : List ℕ) (l : ChunkLine) (bytes after : List ℕ) → HasDataLine n input l (bytes ++ after)
      → length bytes ≡ chunk_size l → IsOpenEnd after → LacksChunks n input
  no_trailers : (n : ℕ) (input : List ℕ) (l : ChunkLine) (after : List ℕ) → HasLastLine input l after → AreOpenTrailers after → LacksChunks n input
  later : (n : ℕ) (input : List ℕ) (l : ChunkLine) (bytes after : List ℕ)
      → HasChunk n input l bytes after → LacksChunks (n + chunk_size l) after → LacksChunks n input

-- after n bytes of the body, chunks and the last one stand before these bytes, where trailers are looked for
pub data ReachesTrailers : ℕ → List ℕ → List ℕ → Type 0 where
  last : (n : ℕ) (input : List ℕ) (l : ChunkLine) (after : List ℕ) → HasLastLine input l after → ReachesTrailers n input after
  later : (n : ℕ) (input : List ℕ) (l : ChunkLine) (bytes after trailers : List ℕ) → HasChunk n input l bytes after
      → ReachesTrailers (n + chunk_size l) after trailers → ReachesTrailers n input trailers
