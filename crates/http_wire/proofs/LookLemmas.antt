-- What the parser answers on the first bytes holds of all bytes.
use Rattle.std.proofs.Common.{◌≡◌, ℕ, ◌-◌, ◌<◌, ◌≤◌, List, [], ◌∷◌, length, take, drop, sym, ap, ◌∙◌, arith, ⊎_elim, append-nil, length-take-le, length-take, rules}
use Rattle.{std.proofs.lemmas.{List.{length-map, append_cancel_right}, Slice.between_is}, http_wire.specs.{Look.{IsParsed, Sees}, declared.look.Head.Head}}
use Rattle.{http_wire.specs.declared.look.HeadRefusal.HeadRefusal, http_wire_intake.specs.{claim.Lines.head_lines, declared.sought.Seen.{Seen, TheVariants.Incomplete}}}
use Rattle.httparse.specs.{Grammar.{RequestHead, HasNoRequest, print_request}, Spans.{span_bytes, IsRequestAt, IsRequestWithin, RequestOverflows, RequestExceeds}}
use Rattle.{httparse.specs.declared.spans.{HeaderSpan.HeaderSpan, RequestSpans.RequestSpans, Span.Span}, http_wire_intake.proofs.Prefixes.{prefix_of_prefix, either_prefix}}
use Rattle.http_wire_intake.proofs.LineLemmas.{lines_of_head, cut_head, head_lines_grow}
use lib.Seq.{take-take}

-- a span of a prefix is one of the whole
span_prefix : (bytes : List ℕ) (n : ℕ) (s : Span) → s.end ≤ n → span_bytes (take n bytes) s ≡ span_bytes bytes s
span_prefix bytes n s within =
    between_is (take n bytes) s.start s.end ∙ ap (drop s.start) (take-take s.end n bytes within) ∙ sym (between_is bytes s.start s.end)

some_lines : (xs : List ℕ) → 0 < head_lines xs → 0 < length xs
some_lines [] h = h
some_lines (b ∷ xs) h = omega arith

-- a head of the first n bytes
pub parsed_at : (bytes : List ℕ) (n : ℕ) (headers : List HeaderSpan) (s : RequestSpans) (h : RequestHead) → n ≤ 16384 → length headers ≡ 64
    → IsRequestWithin (take n bytes) headers s → IsRequestAt (take n bytes) headers s h → IsParsed bytes (take n bytes) (take s.headers headers) s
parsed_at bytes n headers s h few room within at = search (rules, length-take, length-take-le, length-map, prefix_of_prefix, some_lines, lines_of_head, span_prefix)

-- more than 64 fields are at least 66 lines
pub exceeds_lines : (part : List ℕ) → RequestExceeds 64 part → 66 ≤ head_lines part
exceeds_lines part x = search (rules, cut_head, append_cancel_right, append-nil, head_lines_grow)

-- 66 lines and no head: no head of 64 fields can come
pub overflows_at : (part : List ℕ) → HasNoRequest part → 66 ≤ head_lines part → RequestOverflows 64 part
overflows_at part none many more h rest reads = ⊎_elim (λ x. absurd (none h x.0 (reads.0, x.1)))
    (λ x. omega (arith, many, head_lines_grow part x.0, ap head_lines x.1, lines_of_head h reads.0)) (either_prefix part more (print_request h) rest reads.1)

-- more bytes are wanted of few alone
pub sees_short : (bytes : List ℕ) (r : Seen Head HeadRefusal) → Sees bytes r → r ≡ Incomplete → length bytes < 16384
sees_short bytes Incomplete s e = s.short
sees_short bytes _ s e = absurd (cc)
