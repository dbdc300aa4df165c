-- What chunks are stays, whatever bytes follow, and hangs on their bytes alone.
use Rattle.std.proofs.Common.{◌≡◌, ℕ, ◌+◌, List, [], ◌∷◌, ◌++◌, refl, sym, ap, subst, ◌∙◌, arith, inl, inr, append_assoc, length-append, rules, ◌<◌, length}
use Rattle.{std.proofs.lemmas.List.take-append-le, http_wire_intake.specs.{claim.Limits.window, declared.bad_request.BadRequest.{BadRequest, TheVariants.{BadHead, HeadTooLarge}}}}
use Rattle.http_wire_intake.specs.claim.Chunks.{line_window, HasLine, HasChunk, HasLastLine, HasDataLine, HasChunks, RefusesLine, RefusesTrailers, IsNoEnd, HasChunkFault}
use Rattle.httparse.{specs.Grammar.{ReadsSection, print_section, ChunkLine, HasNoChunkLine, print_chunk_line, chunk_size, Field, LineEnd}, proofs.ChunkLemmas.ReadsChunkLine-append}
use Rattle.{http_wire_intake.proofs.{LineLemmas.section_lines_grow, Prefixes.{take_grows, window_grows, window_full}}, httparse.proofs.GrammarLemmas.ReadsSection-append}

-- ---- what stays

pub line_stays : (input more : List ℕ) (l : ChunkLine) (rest : List ℕ) → HasLine input l rest → HasLine (input ++ more) l (rest ++ more)
line_stays input more l rest s = record { reads = ReadsChunkLine-append input l rest more s.reads; short = s.short }

last_line_stays : (input more : List ℕ) (l : ChunkLine) (rest : List ℕ) → HasLastLine input l rest → HasLastLine (input ++ more) l (rest ++ more)
last_line_stays input more l rest s = record { line = line_stays input more l rest s.line; none = s.none }

data_line_stays : (n : ℕ) (input more : List ℕ) (l : ChunkLine) (bytes after : List ℕ) → HasDataLine n input l (bytes ++ after) → HasDataLine n (input ++ more) l (bytes ++ (after ++ more))
data_line_stays n input more l bytes after s = search (rules, append_assoc, line_stays)

pub chunk_stays : (n : ℕ) (input more : List ℕ) (l : ChunkLine) (bytes rest : List ℕ) → HasChunk n input l bytes rest → HasChunk n (input ++ more) l bytes (rest ++ more)
chunk_stays n input more l bytes rest s = search (rules, append_assoc, line_stays)

pub body_stays : (n : ℕ) (input b r more : List ℕ) → HasChunks n input b r → HasChunks n (input ++ more) b (r ++ more)
body_stays n input b r more (HasChunks.last _ _ l x _ s t) = HasChunks.last n (input ++ more) l (x ++ more) (r ++ more) (last_line_stays input more l x s) (search (rules, ReadsSection-append))
body_stays n input b r more (HasChunks.chunk _ _ l d x body _ s chunks) =
    HasChunks.chunk n (input ++ more) l d (x ++ more) body (r ++ more) (chunk_stays n input more l d x s) (body_stays (n + chunk_size l) x body r more chunks)

refused_line_stays : (input more : List ℕ) → RefusesLine input → RefusesLine (input ++ more)
refused_line_stays input more (inl never) =
    let g = take_grows 256 input more in
    let w = line_window input in
    inl (rw g.1 (λ more l rest reads. never (g.0 ++ more) l rest (rw (append_assoc w g.0 more) at reads)))
refused_line_stays input more (inr x) = inr (omega (arith, x.0, length-append input more), subst HasNoChunkLine (sym (take-append-le 256 input more x.0)) x.1)

no_end_stays : (after more : List ℕ) → IsNoEnd after → IsNoEnd (after ++ more)
no_end_stays [] more x = absurd x
no_end_stays (b ∷ []) [] x = x
no_end_stays (b ∷ []) (c ∷ more) x = inl x
no_end_stays (b ∷ c ∷ rest) more x = x

-- what holds of all trailers that more bytes may give holds with some of them
grows : (P : List Field → Type 0) (w y : List ℕ) → ((more : List ℕ) (fields : List Field) (last : LineEnd) (rest : List ℕ) → ReadsSection (w ++ more) fields last rest → P fields)
    → (more : List ℕ) (fields : List Field) (last : LineEnd) (rest : List ℕ) → ReadsSection ((w ++ y) ++ more) fields last rest → P fields
grows P w y all more fields last rest reads = all (y ++ more) fields last rest (subst (λ xs. ReadsSection xs fields last rest) (append_assoc w y more) reads)

refused_trailers_stay : (input more : List ℕ) (f : BadRequest) → RefusesTrailers input f → RefusesTrailers (input ++ more) f
refused_trailers_stay input more BadHead never = let g = window_grows input more in rw g.1 (grows (λ fields. ⊥) (window input) g.0 never)
refused_trailers_stay input more HeadTooLarge (inl x) =
    let same = window_full input more x.long in
    inl (record { long = omega (arith, x.long, length-append input more); none = rw same x.none; goes_on = rw same x.goes_on })
refused_trailers_stay input more HeadTooLarge (inr x) =
    let g = window_grows input more in
    let w = window input in
    inr (record { lines = rw g.1 (omega (arith, x.lines, section_lines_grow w g.0)); exceeds = rw g.1 (grows (λ fields. 64 < length fields) w g.0 x.exceeds) })
refused_trailers_stay input more _ x = x

pub fault_stays : (n : ℕ) (input : List ℕ) (f : BadRequest) (more : List ℕ) → HasChunkFault n input f → HasChunkFault n (input ++ more) f
fault_stays n input f more (HasChunkFault.bad_line _ _ bad) = HasChunkFault.bad_line n (input ++ more) (refused_line_stays input more bad)
fault_stays n input f more (HasChunkFault.too_large _ _ l x s large) = HasChunkFault.too_large n (input ++ more) l (x ++ more) (line_stays input more l x s) large
fault_stays n input f more (HasChunkFault.bad_end _ _ l d x s size bad) =
    HasChunkFault.bad_end n (input ++ more) l d (x ++ more) (data_line_stays n input more l d x s) size (no_end_stays x more bad)
fault_stays n input f more (HasChunkFault.bad_trailers _ _ l x _ s bad) =
    HasChunkFault.bad_trailers n (input ++ more) l (x ++ more) f (last_line_stays input more l x s) (refused_trailers_stay x more f bad)
fault_stays n input f more (HasChunkFault.later _ _ l d x _ s fault) =
    HasChunkFault.later n (input ++ more) l d (x ++ more) f (chunk_stays n input more l d x s) (fault_stays (n + chunk_size l) x f more fault)

-- ---- the prefix

-- a line is its own bytes, before whatever follows
line_prefix : (input : List ℕ) (l : ChunkLine) (rest : List ℕ) → HasLine input l rest → (prefix more after : List ℕ) → prefix ++ more ≡ after → HasLine ((print_chunk_line l ++ prefix) ++ more) l after
line_prefix input l rest s prefix more after e = search (rules, append_assoc)

chunk_prefix : (n : ℕ) (input : List ℕ) (l : ChunkLine) (bytes after prefix : List ℕ) → HasChunk n input l bytes after → (more : List ℕ)
    → HasChunk n ((print_chunk_line l ++ (bytes ++ 13 ∷ 10 ∷ prefix)) ++ more) l bytes (prefix ++ more)
chunk_prefix n input l bytes after prefix s more = search (rules, line_prefix, append_assoc)

pub body_prefix : (n : ℕ) (input b r : List ℕ) → HasChunks n input b r → (prefix : List ℕ) × (input ≡ prefix ++ r) × ((more : List ℕ) → HasChunks n (prefix ++ more) b more)
body_prefix n input b r (HasChunks.last _ _ l x _ s t) =
    let line = print_chunk_line l in
    let text = print_section t.fields t.last in (
      line ++ text,
      s.line.reads.1 ∙ ap (λ (xs : List ℕ). line ++ xs) t.reads.1 ∙ sym (append_assoc line text r),
      λ more. HasChunks.last n ((line ++ text) ++ more) l (text ++ more) more (record { line = line_prefix input l x s.line text more (text ++ more) refl; none = s.none })
          (record { fields = t.fields; last = t.last; reads = (t.reads.0, refl); short = t.short; few = t.few }),
    )
body_prefix n input b r (HasChunks.chunk _ _ l d x body _ s chunks) =
    let g = body_prefix (n + chunk_size l) x body r chunks in
    let line = print_chunk_line l in
    let text = d ++ 13 ∷ 10 ∷ g.0 in (
      line ++ text,
      s.line.reads.1 ∙ ap (λ (xs : List ℕ). line ++ (d ++ 13 ∷ 10 ∷ xs)) g.1 ∙ sym (append_assoc line text r ∙ ap (λ (xs : List ℕ). line ++ xs) (append_assoc d (13 ∷ 10 ∷ g.0) r)),
      λ more. HasChunks.chunk n ((line ++ text) ++ more) l d (g.0 ++ more) body more (chunk_prefix n input l d x g.0 s more) (g.2 more),
    )
