-- Chunks are one of their cases.
use Rattle.std.proofs.Common.{◌≡◌, ℕ, zero, suc, ◌+◌, ◌<◌, ◌≤◌, None, List, [], ◌∷◌, ◌++◌, length, take, drop, codes, refl, sym, ap, subst, ◌∙◌, arith, inl, inr, ⊎_elim, take_all, append-nil, take-append-drop, length-take, length-take-le, length-append, rules}
use Rattle.{std.proofs.lemmas.{Bool.cases_lt, List.Sums.AllPass-from_list_all}, http_wire_intake.specs.{Chunks.AreNoChunks, claim.Limits.{window, body_limit}}}
use Rattle.http_wire_intake.specs.claim.Chunks.{line_window, HasLine, RefusesLine, IsOpenLine, HasTrailers, RefusesTrailers, AreOpenTrailers, HasChunk, HasChunks, HasChunkFault, LacksChunks, HasLastLine, HasDataLine, IsNoEnd, IsOpenEnd}
use Rattle.http_wire_intake.specs.{claim.Lines.section_lines, declared.bad_request.BadRequest.{BadRequest, TheVariants.{BadHead, HeadTooLarge, BodyTooLarge, BadChunk}}}
use Rattle.httparse.specs.Grammar.{ReadsSection, HasNoSection, MayBecomeSection, print_section, ChunkLine, ReadsChunkLine, HasNoChunkLine, MayBecomeChunkLine, print_chunk_line, chunk_size, IsChunkLine}
use Rattle.http_wire_intake.proofs.{ChunkLookLemmas.{section_overflows_at, some_line}, LineLemmas.{lines_of_section, section_lines_grow}}
use Rattle.{http_wire_intake.proofs.Prefixes.{window_rest, window_short, either_prefix}, httparse.proofs.ChunkLemmas.ReadsChunkLine-append}
use Rattle.httparse.proofs.GrammarLemmas.{section_unique, ReadsSection-append}

-- ---- trailers

module _ (input : List ℕ) (none_has : (rest : List ℕ) → HasTrailers input rest → ⊥) (no_fault : (f : BadRequest) → RefusesTrailers input f → ⊥) (not_open : AreOpenTrailers input → ⊥) where
  no_section : HasNoSection (window input)
  no_section fields last rest reads = ⊎_elim
      (λ lt. no_fault HeadTooLarge (inr (record {
        lines = omega (arith, lt, lines_of_section fields last reads.0, section_lines_grow (print_section fields last) rest, ap section_lines reads.1);
        exceeds = λ more gs end after other.
            let same = section_unique (window input ++ more) fields gs last end (rest ++ more) after (ReadsSection-append (window input) fields last rest more reads) other in
            omega (arith, lt, ap length same.0);
      })))
      (λ le. none_has (rest ++ drop 16384 input) (record {
        fields = fields;
        last = last;
        reads = subst (λ xs. ReadsSection xs fields last (rest ++ drop 16384 input)) (window_rest input) (ReadsSection-append (window input) fields last rest (drop 16384 input) reads);
        short = omega (arith, ap length reads.1, length-append (print_section fields last) rest, window_short input);
        few = le;
      }))
      (cases_lt 64 (length fields))

  trailers_may : MayBecomeSection (window input) → ⊥
  trailers_may goes_on = ⊎_elim
      (λ lt. ⊎_elim (λ few. not_open (record { short = lt; none = no_section; goes_on = goes_on; few = few }))
      (λ many. no_fault HeadTooLarge (inr (record { lines = many; exceeds = section_overflows_at (window input) no_section many }))) (cases_lt (section_lines (window input)) 65))
      (λ le. no_fault HeadTooLarge (inl (record { long = le; none = no_section; goes_on = goes_on }))) (cases_lt (length input) 16384)

  trailers_case : ⊥
  trailers_case = no_fault BadHead (λ more fields last rest reads. ⊎_elim (λ x. no_section fields last x.0 (reads.0, x.1))
      (λ x. trailers_may (x.0, fields, last, (reads.0, x.1 ∙ sym (append-nil (print_section fields last))))) (either_prefix (window input) more (print_section fields last) rest reads.1))

-- ---- the line of a chunk

module _ (input : List ℕ) (none_has : (l : ChunkLine) (rest : List ℕ) → HasLine input l rest → ⊥) (no_fault : RefusesLine input → ⊥) (not_open : IsOpenLine input → ⊥) where
  no_line : HasNoChunkLine (line_window input)
  no_line l rest reads = none_has l (rest ++ drop 256 input) (record {
    reads = subst (λ xs. ReadsChunkLine xs l (rest ++ drop 256 input)) (take-append-drop 256 input) (ReadsChunkLine-append (line_window input) l rest (drop 256 input) reads);
    short = omega (arith, ap length reads.1, length-append (print_chunk_line l) rest, length-take 256 input);
  })

  line_may : MayBecomeChunkLine (line_window input) → ⊥
  line_may goes_on = ⊎_elim
      (λ lt.
      let all : line_window input ≡ input = take_all 256 input (omega arith) in
      not_open (record { short = lt; none = subst HasNoChunkLine all no_line; goes_on = subst MayBecomeChunkLine all goes_on }))
      (λ long. no_fault (inr (long, no_line))) (cases_lt (length input) 256)

  line_case : ⊥
  line_case = no_fault (inl (λ more l rest reads. ⊎_elim (λ x. no_line l x.0 (reads.0, x.1)) (λ x. line_may (x.0, l, (reads.0, x.1 ∙ sym (append-nil (print_chunk_line l)))))
      (either_prefix (line_window input) more (print_chunk_line l) rest reads.1)))

-- ---- chunks

end_case : (after : List ℕ) → (IsNoEnd after → ⊥) → (IsOpenEnd after → ⊥) → ((rest : List ℕ) → after ≡ 13 ∷ 10 ∷ rest → ⊥) → ⊥
end_case [] none open_end ends = open_end (inl refl)
end_case (b ∷ []) none open_end ends = none (λ e. open_end (inr (ap (λ n. n ∷ []) e)))
end_case (b ∷ c ∷ rest) none open_end ends = none (inl (λ e. none (inr (λ f. ends rest (ap (λ n. n ∷ c ∷ rest) e ∙ ap (λ n. 13 ∷ n ∷ rest) f)))))

module _ (n : ℕ) (input : List ℕ) (room : n ≤ body_limit) (again : (m : ℕ) (rest : List ℕ) → length rest < length input → m ≤ body_limit → AreNoChunks m rest → ⊥) (x : AreNoChunks n input) where
  module _ (l : ChunkLine) (rest : List ℕ) (s : HasLine input l rest) (within : n + chunk_size l ≤ body_limit) where
    last_case : chunk_size l ≤ 0 → ⊥
    last_case le =
        let last : HasLastLine input l rest = record { line = s; none = omega (arith, le) } in
        trailers_case rest (λ r t. x.whole [] r (HasChunks.last n input l rest r last t)) (λ f bad. x.fault f (HasChunkFault.bad_trailers n input l rest f last bad)) (λ o. x.lack (LacksChunks.no_trailers n input l rest last o))

    data_case : 0 < chunk_size l → chunk_size l ≤ length rest → ⊥
    data_case some long =
        let bytes = take (chunk_size l) rest in
        let after = drop (chunk_size l) rest in
        let whole : rest ≡ bytes ++ after = sym (take-append-drop (chunk_size l) rest) in
        let size : length bytes ≡ chunk_size l = length-take-le (chunk_size l) rest long in
        let line : HasDataLine n input l (bytes ++ after) = record { line = subst (HasLine input l) whole s; some = some; within = within } in
        end_case after (λ bad. x.fault BadChunk (HasChunkFault.bad_end n input l bytes after line size bad)) (λ o. x.lack (LacksChunks.no_end n input l bytes after line size o))
        (λ r e.
        let chunk : HasChunk n input l bytes r = record { line = subst (λ xs. HasLine input l (bytes ++ xs)) e line.line; some = some; size = size; within = within } in
        again (n + chunk_size l) r (omega (arith, ap length s.reads.1, length-append (print_chunk_line l) rest, ap length whole, length-append bytes after, ap length e)) within (record {
          whole = λ b q y. x.whole (bytes ++ b) q (HasChunks.chunk n input l bytes r b q chunk y);
          fault = λ f y. x.fault f (HasChunkFault.later n input l bytes r f chunk y);
          lack = λ y. x.lack (LacksChunks.later n input l bytes r chunk y);
        }))

    sized_case : ⊥
    sized_case = ⊎_elim
        (λ lt. ⊎_elim (λ few. x.lack (LacksChunks.no_data n input l rest (record { line = s; some = lt; within = within }) few)) (data_case lt) (cases_lt (length rest) (chunk_size l)))
        last_case (cases_lt 0 (chunk_size l))

  chunk_case : ⊥
  chunk_case = line_case input (λ l rest s. ⊎_elim (λ large. x.fault BodyTooLarge (HasChunkFault.too_large n input l rest s large)) (sized_case l rest s) (cases_lt body_limit (n + chunk_size l)))
      (λ bad. x.fault BadChunk (HasChunkFault.bad_line n input bad)) (λ o. x.lack (LacksChunks.no_line n input o))

pub chunk_cases : (k n : ℕ) (input : List ℕ) → length input ≤ k → n ≤ body_limit → AreNoChunks n input → ⊥
chunk_cases zero n input short room x = chunk_case n input room (λ m rest less within y. omega (arith, short, less)) x
chunk_cases (suc k) n input short room x = chunk_case n input room (λ m rest less within y. chunk_cases k m rest (omega (arith, short, less)) within y) x

-- ---- no bytes

-- the line of a last chunk
abbrev last_chunk : ChunkLine
last_chunk = record { digits = codes "0"; pad = []; extension = None }

last_chunk_ok : IsChunkLine last_chunk
unfolding lib.Utf8.encode
last_chunk_ok = search (rules, AllPass-from_list_all)

pub nothing_lacks : (n : ℕ) → LacksChunks n []
unfolding print_chunk_line
nothing_lacks n = LacksChunks.no_line n [] (record {
  short = omega arith;
  none = λ l rest reads. absurd (omega (arith, ap length reads.1, length-append (print_chunk_line l) rest, some_line l reads.0));
  goes_on = (print_chunk_line last_chunk, last_chunk, (last_chunk_ok, sym (append-nil (print_chunk_line last_chunk))));
})
