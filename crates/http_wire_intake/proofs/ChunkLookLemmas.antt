-- What the parser answers on the first bytes holds of all bytes: chunks' lines and trailers.
use Rattle.std.proofs.Common.{◌≡◌, ℕ, ◌+◌, ◌-◌, ◌<◌, ◌≤◌, min, List, ◌++◌, length, take, drop, ap, ◌∙◌, arith, ⊎_elim, append-nil, length-take, length-take-le, length-append, rules}
use Rattle.{std.proofs.lemmas.List.{length-map, append_cancel_right}, http_wire_intake.specs.{ChunkParts.IsLineAt, claim.{Chunks.{HasTrailers, line_window}, Lines.section_lines}}}
use Rattle.{http_wire_intake.specs.declared.chunk_line.FoundLine.FoundLine, httparse.specs.Spans.{IsChunkLineAt, IsSectionWithin, IsSectionAt, SectionOverflows, SectionExceeds}}
use Rattle.httparse.specs.{Grammar.{LineEnd, Field, print_section, HasNoSection, ChunkLine, print_chunk_line, IsChunkLine}, declared.spans.HeaderSpan.HeaderSpan}
use Rattle.http_wire_intake.proofs.{LineLemmas.{fields_lines, lines_of_section, section_lines_grow}, Prefixes.{prefix_of_prefix, take_min, either_prefix}}

pub line_window_is : (bytes : List ℕ) (n : ℕ) → n ≡ min (length bytes) 256 → take n bytes ≡ line_window bytes
line_window_is bytes n e = take_min 256 bytes n e

pub some_line : (l : ChunkLine) → IsChunkLine l → 0 < length (print_chunk_line l)
unfolding print_chunk_line
some_line l ok = search (rules, length-append)

-- what stands at the start of the first n bytes ends within them
prefix_fits : (bytes prefix : List ℕ) (n m : ℕ) → take n bytes ≡ prefix ++ drop m (take n bytes) → (length prefix ≤ n) × (length prefix ≤ length bytes)
prefix_fits bytes prefix n m e =
    let whole : length (take n bytes) ≡ length prefix + length (drop m (take n bytes)) = ap length e ∙ length-append prefix (drop m (take n bytes)) in
    (omega (arith, length-take n bytes), omega (arith, length-take n bytes))

-- a line of the first n bytes
pub line_at : (bytes : List ℕ) (n : ℕ) (found : FoundLine) (l : ChunkLine) → n ≤ 256 → IsChunkLineAt (take n bytes) found.len found.size l → IsLineAt bytes found
line_at bytes n found l few at = search (rules, prefix_fits, prefix_of_prefix, some_line)

-- trailers of the first n bytes
pub trailers_at : (bytes : List ℕ) (n len count : ℕ) (headers : List HeaderSpan) (fields : List Field) (last : LineEnd) → n ≤ 16384 → length headers ≡ 64 → IsSectionWithin (take n bytes) headers len count
    → IsSectionAt (take n bytes) 0 headers len count fields last → (len ≤ length bytes) × HasTrailers bytes (drop len bytes)
trailers_at bytes n len count headers fields last few room within at = search (rules, prefix_fits, length-take-le, length-map, prefix_of_prefix)

-- more than 64 fields are at least 65 lines
pub exceeds_lines : (part : List ℕ) → SectionExceeds 64 part → 65 ≤ section_lines part
exceeds_lines part x = search (rules, append_cancel_right, append-nil, fields_lines, section_lines_grow)

-- 65 lines and no trailers: no trailers of 64 fields can come
pub section_overflows_at : (part : List ℕ) → HasNoSection part → 65 ≤ section_lines part → SectionOverflows 64 part
section_overflows_at part none many more fields last rest reads = ⊎_elim (λ x. absurd (none fields last x.0 (reads.0, x.1)))
    (λ x. omega (arith, many, section_lines_grow part x.0, ap section_lines x.1, lines_of_section fields last reads.0)) (either_prefix part more (print_section fields last) rest reads.1)
