-- The parts of a body in chunks, one after another.
use Rattle.std.{specs.{Io.KnownBytes.Consumes, Prelude.⊤}, proofs.{KnownBytes.Consumes-trans, Math.Seq.take-append_seam, lemmas.List.{append_cancel_left, take-append-le}}}
use Rattle.std.proofs.Common.{◌≡◌, ℕ, ◌+◌, ◌<◌, ◌≤◌, List, [], ◌∷◌, ◌++◌, length, take, drop, Option, None, Result, Ok, Err, refl, sym, ap, subst, ◌∙◌, arith, inl, inr, append_assoc, append-nil, take-append-drop, length-append, rules}
use Rattle.http_wire_intake.specs.{ChunkParts.{IsLineAt, PartCame, EndCame, TrailersCame, HasData, LacksData, DataCame, StepCame, after_trailers, after_data}, Chunked.ChunksCame}
use Rattle.http_wire_intake.specs.{Draws.IsPutOff, claim.Chunks.{HasLine, HasDataLine, HasLastLine, HasChunk, HasChunks, HasChunkFault, LacksChunks}}
use Rattle.http_wire_intake.specs.declared.{bad_request.BadRequest.{BadRequest, TheVariants.BodyTooLarge}, chunk_line.FoundLine.FoundLine, chunks.Chunked.Chunked}
use Rattle.{http_wire_intake.{specs.declared.fault.WireFault.WireFault, proofs.ChunkStays.{line_stays, chunk_stays}}, httparse.specs.Grammar.{ChunkLine, chunk_size}}
use Rattle.http_wire_intake.proofs.DrawsLemmas.{not_put_off}
use Rattle.http_wire_intake.specs.declared.chunks.Chunked.TheVariants as came
use Rattle.http_wire_intake.specs.declared.fault.WireFault.TheVariants as fault

-- ---- a part

-- reading it failed, where more bytes were wanted of what is held
pub part_failed : (IsOpen : List ℕ → Type 0) (held : List ℕ) (lacks : Type 0) (e : WireFault) → (IsOpen held → lacks) → IsPutOff IsOpen (λ b. ⊥) held → PartCame ⊤ lacks (λ f. ⊤) (Err e)
part_failed IsOpen held lacks fault.Memory told x = tt
part_failed IsOpen held lacks _ told x = told (not_put_off IsOpen held x)

-- ---- one chunk

-- the line that was found, before more bytes
found_line : (input more : List ℕ) (found : FoundLine) → (s : IsLineAt input found) → HasLine (input ++ more) s.line (drop found.len input ++ more)
found_line input more found s = line_stays input more s.line (drop found.len input) s.stands

last_line : (input more : List ℕ) (found : FoundLine) → (s : IsLineAt input found) → found.size ≡ 0 → HasLastLine (input ++ more) s.line (drop found.len input ++ more)
last_line input more found s zero_size = record { line = found_line input more found s; none = sym s.size ∙ zero_size }

data_line : (n : ℕ) (input more : List ℕ) (found : FoundLine) → (s : IsLineAt input found) → 0 < found.size → n + found.size ≤ 33554432 → HasDataLine n (input ++ more) s.line (drop found.len input ++ more)
data_line n input more found s some room = search (rules, found_line)

-- its size passes what a body may have
pub line_too_large : (n : ℕ) (input more : List ℕ) (found : FoundLine) → IsLineAt input found → 33554432 < n + found.size → HasChunkFault n (input ++ more) BodyTooLarge
line_too_large n input more found s large = HasChunkFault.too_large n (input ++ more) s.line (drop found.len input ++ more) (found_line input more found s) (omega (arith, s.size, large))

-- the last chunk and its trailers
pub last_reads : (old input more : List ℕ) (found : FoundLine) (c : Result Chunked WireFault) (rest : List ℕ) → IsLineAt input found → found.size ≡ 0 → TrailersCame (drop found.len input ++ more) c rest
    → StepCame old (input ++ more) (after_trailers c) old rest
last_reads old input more found (Ok came.Whole) rest s none t = (HasChunks.last _ _ s.line (drop found.len input ++ more) rest (last_line input more found s none) t, refl)
last_reads old input more found (Ok (came.Refused f)) rest s none t = HasChunkFault.bad_trailers _ _ s.line (drop found.len input ++ more) f (last_line input more found s none) t
last_reads old input more found (Err fault.Memory) rest s none t = tt
last_reads old input more found _ rest s none t = LacksChunks.no_trailers _ _ s.line (drop found.len input ++ more) (last_line input more found s none) t

lacks_data : (old input text : List ℕ) (n : ℕ) (l : ChunkLine) → HasDataLine (length old) input l text → n ≡ length old + chunk_size l → LacksData old n text → LacksChunks (length old) input
lacks_data old input text n l s e (inl short) = LacksChunks.no_data _ _ l text s (omega (arith, e, short))
lacks_data old input text n l s e (inr x) = LacksChunks.no_end _ _ l x.1.bytes x.0 (subst (HasDataLine (length old) input l) x.1.stands s) (omega (arith, e, x.1.size)) x.2

data_step : (old input text : List ℕ) (n : ℕ) (l : ChunkLine) (c : Result Chunked WireFault) (new rest : List ℕ) → HasDataLine (length old) input l text → n ≡ length old + chunk_size l → DataCame old n text c new rest
    → StepCame old input (after_data c) new rest
data_step old input text n l (Ok came.Whole) new rest s e d =
    let line = subst (HasDataLine (length old) input l) d.stands.stands s in
    (l, d.stands.bytes, record { line = line.line; some = s.some; size = omega (arith, e, d.stands.size); within = s.within }, d.grown)
data_step old input text n l (Ok (came.Refused f)) new rest s e d =
    subst (HasChunkFault (length old) input) (sym d.0)
    (HasChunkFault.bad_end _ _ l d.1.1.bytes d.1.0 (subst (HasDataLine (length old) input l) d.1.1.stands s) (omega (arith, e, d.1.1.size)) d.1.2)
data_step old input text n l (Err fault.Memory) new rest s e d = tt
data_step old input text n l _ new rest s e d = lacks_data old input text n l s e d

-- a chunk and its data
pub data_reads : (old input more : List ℕ) (found : FoundLine) (n : ℕ) (c : Result Chunked WireFault) (new rest : List ℕ) → IsLineAt input found → 0 < found.size → n ≡ length old + found.size → n ≤ 33554432
    → DataCame old n (drop found.len input ++ more) c new rest → StepCame old (input ++ more) (after_data c) new rest
data_reads old input more found n c new rest s some e room d =
    data_step old (input ++ more) (drop found.len input ++ more) n s.line c new rest (data_line (length old) input more found s some (omega (arith, e, room))) (omega (arith, e, s.size)) d

-- ---- the data

-- all of the data has come, and then what ends it was read so
pub whole_data : (old input mid : List ℕ) (n : ℕ) (more new rest : List ℕ) (c : Result Chunked WireFault) → length old ≤ n → old ++ input ≡ new ++ mid → length new ≡ n → EndCame (mid ++ more) c rest
    → DataCame old n (input ++ more) c new rest
whole_data old input mid n more new rest c within same size e = decide c e
  where
    -- the new bytes begin with the old ones
    split : (bytes : List ℕ) × (new ≡ old ++ bytes) × (input ≡ bytes ++ mid)
    split =
        let n = length old in
        let prefix : take n new ≡ old = sym (take-append-le n new mid (omega (arith, within, size))) ∙ ap (take n) (sym same) ∙ take-append_seam old input in
        let whole : new ≡ old ++ drop n new = sym (take-append-drop n new) ∙ ap (λ (xs : List ℕ). xs ++ drop n new) prefix in
        (drop n new, whole, append_cancel_left old input (drop n new ++ mid) (same ∙ ap (λ (xs : List ℕ). xs ++ mid) whole ∙ append_assoc old (drop n new) mid))

    data_after : (later : List ℕ) → mid ++ more ≡ later → HasData old n (input ++ more) later
    data_after later is = record {
      bytes = split.0;
      stands = ap (λ (xs : List ℕ). xs ++ more) split.2 ∙ append_assoc split.0 mid more ∙ ap (λ (xs : List ℕ). split.0 ++ xs) is;
      size = omega (arith, size, ap length split.1, length-append old split.0);
    }

    decide : (r : Result Chunked WireFault) → EndCame (mid ++ more) r rest → DataCame old n (input ++ more) r new rest
    decide (Ok came.Whole) x = record { stands = data_after (13 ∷ 10 ∷ rest) x; grown = split.1 }
    decide (Ok (came.Refused f)) x = (x.0, (mid ++ more, data_after (mid ++ more) refl, x.1))
    decide (Err fault.Memory) x = tt
    decide _ x = inr (mid ++ more, data_after (mid ++ more) refl, x)

-- ---- all chunks

-- the chunks so far: what is told of the rest of the input is told of all of it
pub record Stands (before now : Option (List ℕ)) (start held body : List ℕ) : Type 0 where
  pub bytes : List ℕ
  pub consumed : Consumes before now bytes
  pub whole : (added rest more : List ℕ) → HasChunks (length body) (held ++ more) added rest → HasChunks 0 (start ++ (bytes ++ more)) (body ++ added) rest
  pub lacks : (more : List ℕ) → LacksChunks (length body) (held ++ more) → LacksChunks 0 (start ++ (bytes ++ more))
  pub refuses : (f : BadRequest) (more : List ℕ) → HasChunkFault (length body) (held ++ more) f → HasChunkFault 0 (start ++ (bytes ++ more)) f

-- a chunk more
pub stands_more : (u v w : Option (List ℕ)) (start held body more new rest : List ℕ) → Stands u v start held body → Consumes v w more → StepCame body (held ++ more) (Ok None) new rest → Stands u w start rest new
stands_more u v w start held body more new rest s read (l, bytes, c, grown) = subst (Stands u w start rest) (sym grown) (record {
  bytes = s.bytes ++ more;
  consumed = Consumes-trans u v w s.bytes more s.consumed read;
  whole = λ added last after x. rw (append_assoc body bytes added, append_assoc s.bytes more after)
      (s.whole (bytes ++ added) last (more ++ after) (HasChunks.chunk _ _ l bytes (rest ++ after) added last (before after) (rw (← size) x)));
  lacks = λ after x. rw (append_assoc s.bytes more after) (s.lacks (more ++ after) (LacksChunks.later _ _ l bytes (rest ++ after) (before after) (rw (← size) x)));
  refuses = λ f after x. rw (append_assoc s.bytes more after) (s.refuses f (more ++ after) (HasChunkFault.later _ _ l bytes (rest ++ after) f (before after) (rw (← size) x)));
})
  where
    size : length (body ++ bytes) ≡ length body + chunk_size l
    size = omega (arith, length-append body bytes, c.size)

    before : (after : List ℕ) → HasChunk (length body) (held ++ (more ++ after)) l bytes (rest ++ after)
    before after = rw (← append_assoc held more after) (chunk_stays (length body) (held ++ more) after l bytes rest c)

-- the body keeps its limit
pub step_within : (body input new rest : List ℕ) → StepCame body input (Ok None) new rest → length new ≤ 33554432
step_within body input new rest c = omega (arith, ap length c.3, length-append body c.1, c.2.size, c.2.within)

ended_reads : (u v : Option (List ℕ)) (start held body more new rest : List ℕ) (s : Stands u v start held body) (r : Result Chunked WireFault) → StepCame body (held ++ more) (after_trailers r) new rest → ChunksCame 0 (start ++ (s.bytes ++ more)) r new rest
ended_reads u v start held body more new rest s (Ok came.Whole) x = subst (λ xs. HasChunks 0 (start ++ (s.bytes ++ more)) xs rest) (append-nil body ∙ sym x.1) (s.whole [] rest more x.0)
ended_reads u v start held body more new rest s (Ok (came.Refused f)) x = s.refuses f more x
ended_reads u v start held body more new rest s (Err fault.Memory) x = tt
ended_reads u v start held body more new rest s _ x = s.lacks more x

-- what ended the chunks, or reading failed
pub stands_ended : (u v w : Option (List ℕ)) (start held body new rest : List ℕ) (r : Result Chunked WireFault) → Stands u v start held body → (more : List ℕ) × Consumes v w more × StepCame body (held ++ more) (after_trailers r) new rest
    → (more : List ℕ) × Consumes u w more × ChunksCame 0 (start ++ more) r new rest
stands_ended u v w start held body new rest r s read =
    (s.bytes ++ read.0, Consumes-trans u v w s.bytes read.0 s.consumed read.1, ended_reads u v start held body read.0 new rest s r read.2)
