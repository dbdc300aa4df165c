-- What stands at the start of chunks is one thing alone.
use Rattle.{std.specs.Prelude.⊤, http_wire_intake.specs.{Chunks.HasTwoFaults, claim.Limits.{window, body_limit}, declared.bad_request.BadRequest.BadRequest}}
use Rattle.std.proofs.Common.{◌≡◌, ◌⊎◌, ℕ, ◌+◌, ◌-◌, ◌≤◌, List, [], ◌∷◌, ◌++◌, length, drop, refl, sym, ap, subst, ◌∙◌, arith, inl, inr, take_all, take-append-drop, length-append, ⊎_elim}
use Rattle.http_wire_intake.specs.claim.Chunks.{HasLine, HasTrailers, HasChunk, HasLastLine, HasDataLine, HasChunks, RefusesLine, RefusesTrailers, IsNoEnd, HasTooManyTrailers, IsOpenLine, IsOpenEnd, AreOpenTrailers, HasChunkFault, LacksChunks, ReachesTrailers}
use Rattle.http_wire_intake.{specs.declared.bad_request.BadRequest.TheVariants.{BadHead, HeadTooLarge}, proofs.Prefixes.{same_cut, in_window}}
use Rattle.httparse.specs.Grammar.{ReadsSection, MayBecomeSection, NeverHasSection, print_section, ChunkLine, ReadsChunkLine, print_chunk_line, chunk_size, HasNoSection}
use Rattle.httparse.proofs.{ChunkLemmas.chunk_line_unique, GrammarLemmas.section_unique}

same_line : (input : List ℕ) (l k : ChunkLine) (r q : List ℕ) → HasLine input l r → HasLine input k q → (l ≡ k) × (r ≡ q)
same_line input l k r q x y = chunk_line_unique input l k r q x.reads y.reads

line_or_refused : (input : List ℕ) → RefusesLine input → (l : ChunkLine) (r : List ℕ) → HasLine input l r → ⊥
line_or_refused input (inl never) l r s = never (drop 256 input) l r (rw take-append-drop s.reads)
line_or_refused input (inr x) l r s =
    let g = in_window 256 input (print_chunk_line l) r s.reads.1 s.short in
    x.1 l g.0 (s.reads.0, g.1)

refused_or_open : (input : List ℕ) → RefusesLine input → IsOpenLine input → ⊥
refused_or_open input (inl never) o =
    let g = o.goes_on in
    never g.0 g.1 [] (subst (λ (xs : List ℕ). ReadsChunkLine (xs ++ g.0) g.1 []) (sym (take_all 256 input (omega (arith, o.short)))) g.2)
refused_or_open input (inr x) o = omega (arith, x.0, o.short)

-- the size that a line tells is one
same_size : (input : List ℕ) (l k : ChunkLine) (r q : List ℕ) → HasLine input l r → HasLine input k q → chunk_size l ≡ chunk_size k
same_size input l k r q x y = ap chunk_size (same_line input l k r q x y).0

-- ---- the start of a chunk

-- the line of the last one, a line and all of its data, or neither
data Start (n : ℕ) (input : List ℕ) : Type 0 where
  last : (l : ChunkLine) (x : List ℕ) → HasLastLine input l x → Start n input
  full : (l : ChunkLine) (d x : List ℕ) → HasDataLine n input l (d ++ x) → length d ≡ chunk_size l → Start n input
  neither : ((l : ChunkLine) (x : List ℕ) → HasLastLine input l x → ⊥)
      → ((l : ChunkLine) (d x : List ℕ) → HasDataLine n input l (d ++ x) → length d ≡ chunk_size l → ⊥) → Start n input

-- what two of them have in common
abbrev Same : (n : ℕ) (input : List ℕ) → Start n input → Start n input → Type 0
Same n input (Start.last l x s) (Start.last k y t) = x ≡ y
Same n input (Start.full l d x s size) (Start.full k c y t other) = (l ≡ k) × (d ≡ c) × (x ≡ y)
Same n input (Start.neither a b) (Start.neither c d) = ⊤
Same n input _ _ = ⊥

same_start : (n : ℕ) (input : List ℕ) (a b : Start n input) → Same n input a b
same_start n input (Start.last l x s) (Start.last k y t) = (same_line input l k x y s.line t.line).1
same_start n input (Start.last l x s) (Start.full k c y t size) = omega (arith, same_size input l k x (c ++ y) s.line t.line, s.none, t.some)
same_start n input (Start.last l x s) (Start.neither a b) = a l x s
same_start n input (Start.full l d x s size) (Start.last k y t) = omega (arith, same_size input l k (d ++ x) y s.line t.line, s.some, t.none)
same_start n input (Start.full l d x s size) (Start.full k c y t other) =
    let same = same_line input l k (d ++ x) (c ++ y) s.line t.line in
    let cut = same_cut d c x y same.1 (size ∙ ap chunk_size same.0 ∙ sym other) in
    (same.0, cut.0, cut.1)
same_start n input (Start.full l d x s size) (Start.neither a b) = b l d x s size
same_start n input (Start.neither a b) (Start.last k y t) = a k y t
same_start n input (Start.neither a b) (Start.full k c y t size) = b k c y t size
same_start n input (Start.neither a b) (Start.neither c d) = tt

abbrev of_chunk : (n : ℕ) (input : List ℕ) (l : ChunkLine) (d x : List ℕ) → HasChunk n input l d x → Start n input
of_chunk n input l d x s = Start.full l d (13 ∷ 10 ∷ x) (record { line = s.line; some = s.some; within = s.within }) s.size

abbrev of_body : (n : ℕ) (input b r : List ℕ) → HasChunks n input b r → Start n input
of_body n input b r (HasChunks.last _ _ l x _ s t) = Start.last l x s
of_body n input b r (HasChunks.chunk _ _ l d x body _ s more) = of_chunk n input l d x s

abbrev of_fault : (n : ℕ) (input : List ℕ) (f : BadRequest) → n ≤ body_limit → HasChunkFault n input f → Start n input
of_fault n input f room (HasChunkFault.bad_line _ _ bad) = Start.neither (λ k y t. line_or_refused input bad k y t.line) (λ k d y t size. line_or_refused input bad k (d ++ y) t.line)
of_fault n input f room (HasChunkFault.too_large _ _ l x s large) =
    Start.neither (λ k y t. omega (arith, same_size input l k x y s t.line, t.none)) (λ k d y t size. omega (arith, same_size input l k x (d ++ y) s t.line, t.within))
of_fault n input f room (HasChunkFault.bad_end _ _ l d x s size bad) = Start.full l d x s size
of_fault n input f room (HasChunkFault.bad_trailers _ _ l x _ s bad) = Start.last l x s
of_fault n input f room (HasChunkFault.later _ _ l d x _ s fault) = of_chunk n input l d x s

abbrev of_lack : (n : ℕ) (input : List ℕ) → LacksChunks n input → Start n input
of_lack n input (LacksChunks.no_line _ _ o) = Start.neither (λ k y t. o.none k y t.line.reads) (λ k d y t size. o.none k (d ++ y) t.line.reads)
of_lack n input (LacksChunks.no_data _ _ l x s short) = Start.neither (λ k y t. omega (arith, same_size input l k x y s.line t.line, s.some, t.none))
    (λ k d y t size. omega (arith, ap length (same_line input l k x (d ++ y) s.line t.line).1, same_size input l k x (d ++ y) s.line t.line, length-append d y))
of_lack n input (LacksChunks.no_end _ _ l d x s size o) = Start.full l d x s size
of_lack n input (LacksChunks.no_trailers _ _ l x s o) = Start.last l x s
of_lack n input (LacksChunks.later _ _ l d x s lack) = of_chunk n input l d x s

-- ---- the end of a chunk

no_end_or_end : (after rest : List ℕ) → 13 ∷ 10 ∷ rest ≡ after → IsNoEnd after → ⊥
no_end_or_end after rest e x = ⊎_elim (λ other. other refl) (λ other. other refl) (subst IsNoEnd (sym e) x)

open_end_or_end : (after rest : List ℕ) → 13 ∷ 10 ∷ rest ≡ after → IsOpenEnd after → ⊥
open_end_or_end after rest e o = ⊎_elim (λ x. omega (arith, ap length e, ap length x)) (λ x. omega (arith, ap length e, ap length x)) o

no_end_or_open_end : (after : List ℕ) → IsNoEnd after → IsOpenEnd after → ⊥
no_end_or_open_end after x (inl o) = subst IsNoEnd o x
no_end_or_open_end after x (inr o) = subst IsNoEnd o x refl

-- ---- trailers

-- where none stand there are none
no_trailers : (input rest : List ℕ) → HasNoSection (window input) → HasTrailers input rest → ⊥
no_trailers input rest none t =
    let g = in_window 16384 input (print_section t.fields t.last) rest t.reads.1 t.short in
    none t.fields t.last g.0 (t.reads.0, g.1)

trailers_or_refused : (input rest : List ℕ) (f : BadRequest) → HasTrailers input rest → RefusesTrailers input f → ⊥
trailers_or_refused input rest BadHead t x = x (drop 16384 input) t.fields t.last rest (rw take-append-drop t.reads)
trailers_or_refused input rest HeadTooLarge t (inl x) = no_trailers input rest x.none t
trailers_or_refused input rest HeadTooLarge t (inr x) = omega (arith, t.few, x.exceeds (drop 16384 input) t.fields t.last rest (rw take-append-drop t.reads))
trailers_or_refused input rest _ t x = x

-- where no trailers can come none may
never_or_may : (bytes : List ℕ) → NeverHasSection bytes → MayBecomeSection bytes → ⊥
never_or_may bytes never g = never g.0 g.1 g.2 [] g.3

refused_or_open_trailers : (input : List ℕ) (f : BadRequest) → RefusesTrailers input f → AreOpenTrailers input → ⊥
refused_or_open_trailers input BadHead x o = never_or_may (window input) x o.goes_on
refused_or_open_trailers input HeadTooLarge (inl x) o = omega (arith, x.long, o.short)
refused_or_open_trailers input HeadTooLarge (inr x) o = omega (arith, x.lines, o.few)
refused_or_open_trailers input _ x o = x

-- trailers have one fault, or these two
trailers_fault : (input : List ℕ) (f g : BadRequest) → RefusesTrailers input f → RefusesTrailers input g → (f ≡ g) ⊎ (HasTooManyTrailers input × NeverHasSection (window input))
trailers_fault input BadHead BadHead x y = inl refl
trailers_fault input BadHead HeadTooLarge x (inl y) = absurd (never_or_may (window input) x y.goes_on)
trailers_fault input BadHead HeadTooLarge x (inr y) = inr (y, x)
trailers_fault input HeadTooLarge BadHead (inl x) y = absurd (never_or_may (window input) y x.goes_on)
trailers_fault input HeadTooLarge BadHead (inr x) y = inr (x, y)
trailers_fault input HeadTooLarge HeadTooLarge x y = inl refl
trailers_fault input BadHead _ x y = absurd y
trailers_fault input HeadTooLarge _ x y = absurd y
trailers_fault input _ g x y = absurd x

-- ---- all chunks

same_chunk : (n : ℕ) (input : List ℕ) (l k : ChunkLine) (b c r q : List ℕ) → HasChunk n input l b r → HasChunk n input k c q → (l ≡ k) × (b ≡ c) × (13 ∷ 10 ∷ r ≡ 13 ∷ 10 ∷ q)
same_chunk n input l k b c r q x y = same_start n input (of_chunk n input l b r x) (of_chunk n input k c q y)

-- what stands after a chunk stands after it by its other name
after_same : (P : ℕ → List ℕ → Type 0) (n : ℕ) (input : List ℕ) (l k : ChunkLine) (b c r q : List ℕ) → HasChunk n input l b r → HasChunk n input k c q → P (n + chunk_size k) q → P (n + chunk_size l) r
after_same P n input l k b c r q x y p =
    let same = same_chunk n input l k b c r q x y in
    subst (P (n + chunk_size l)) (sym (ap (drop 2) same.2)) (subst (λ (j : ChunkLine). P (n + chunk_size j) q) (sym same.0) p)

pub one_body : (n : ℕ) (input b c r q : List ℕ) → HasChunks n input b r → HasChunks n input c q → (b ≡ c) × (r ≡ q)
one_body n input b c r q (HasChunks.last _ _ l x _ s t) (HasChunks.last _ _ k y _ u v) =
    let reads = subst (λ xs. ReadsSection xs v.fields v.last q) (sym (same_line input l k x y s.line u.line).1) v.reads in
    (refl, (section_unique x t.fields v.fields t.last v.last r q t.reads reads).2)
one_body n input b c r q (HasChunks.chunk _ _ l d x body _ s more) (HasChunks.chunk _ _ k e y other _ t others) =
    let rest = one_body (n + chunk_size l) x body other r q more (after_same (λ m xs. HasChunks m xs other q) n input l k d e x y s t others) in
    (ap (λ (xs : List ℕ). xs ++ body) (same_chunk n input l k d e x y s t).1 ∙ ap (λ (xs : List ℕ). e ++ xs) rest.0, rest.1)
one_body n input b c r q x y = absurd (same_start n input (of_body n input b r x) (of_body n input c q y))

pub body_or_fault : (n : ℕ) (input b r : List ℕ) (f : BadRequest) → n ≤ body_limit → HasChunks n input b r → HasChunkFault n input f → ⊥
body_or_fault n input b r f room (HasChunks.last _ _ l x _ s t) (HasChunkFault.bad_trailers _ _ k y _ u bad) =
    trailers_or_refused x r f t (subst (λ xs. RefusesTrailers xs f) (sym (same_line input l k x y s.line u.line).1) bad)
body_or_fault n input b r f room (HasChunks.chunk _ _ l d x body _ s more) (HasChunkFault.bad_end _ _ k c y u size bad) =
    no_end_or_end y x (same_start n input (of_chunk n input l d x s) (Start.full k c y u size)).2 bad
body_or_fault n input b r f room (HasChunks.chunk _ _ l d x body _ s more) (HasChunkFault.later _ _ k c y _ u fault) =
    body_or_fault (n + chunk_size l) x body r f s.within more (after_same (λ m xs. HasChunkFault m xs f) n input l k d c x y s u fault)
body_or_fault n input b r f room x y = same_start n input (of_body n input b r x) (of_fault n input f room y)

pub body_or_lack : (n : ℕ) (input b r : List ℕ) → HasChunks n input b r → LacksChunks n input → ⊥
body_or_lack n input b r (HasChunks.last _ _ l x _ s t) (LacksChunks.no_trailers _ _ k y u o) =
    no_trailers x r (subst AreOpenTrailers (sym (same_line input l k x y s.line u.line).1) o).none t
body_or_lack n input b r (HasChunks.chunk _ _ l d x body _ s more) (LacksChunks.no_end _ _ k c y u size o) =
    open_end_or_end y x (same_start n input (of_chunk n input l d x s) (Start.full k c y u size)).2 o
body_or_lack n input b r (HasChunks.chunk _ _ l d x body _ s more) (LacksChunks.later _ _ k c y u lack) =
    body_or_lack (n + chunk_size l) x body r more (after_same LacksChunks n input l k d c x y s u lack)
body_or_lack n input b r x y = same_start n input (of_body n input b r x) (of_lack n input y)

pub fault_or_lack : (n : ℕ) (input : List ℕ) (f : BadRequest) → n ≤ body_limit → HasChunkFault n input f → LacksChunks n input → ⊥
fault_or_lack n input f room (HasChunkFault.bad_line _ _ bad) (LacksChunks.no_line _ _ o) = refused_or_open input bad o
fault_or_lack n input f room (HasChunkFault.bad_line _ _ bad) (LacksChunks.no_data _ _ k y u short) = line_or_refused input bad k y u.line
fault_or_lack n input f room (HasChunkFault.too_large _ _ l x s large) (LacksChunks.no_line _ _ o) = o.none l x s.reads
fault_or_lack n input f room (HasChunkFault.too_large _ _ l x s large) (LacksChunks.no_data _ _ k y u short) = omega (arith, same_size input l k x y s u.line, u.within)
fault_or_lack n input f room (HasChunkFault.bad_end _ _ l d x s size bad) (LacksChunks.no_end _ _ k c y u other o) =
    no_end_or_open_end x bad (subst IsOpenEnd (sym (same_start n input (Start.full l d x s size) (Start.full k c y u other)).2) o)
fault_or_lack n input f room (HasChunkFault.bad_end _ _ l d x s size bad) (LacksChunks.later _ _ k c y u lack) =
    no_end_or_end x y (same_start n input (of_chunk n input k c y u) (Start.full l d x s size)).2 bad
fault_or_lack n input f room (HasChunkFault.bad_trailers _ _ l x _ s bad) (LacksChunks.no_trailers _ _ k y u o) =
    refused_or_open_trailers x f bad (subst AreOpenTrailers (sym (same_line input l k x y s.line u.line).1) o)
fault_or_lack n input f room (HasChunkFault.later _ _ l d x _ s fault) (LacksChunks.no_end _ _ k c y u size o) =
    open_end_or_end y x (same_start n input (of_chunk n input l d x s) (Start.full k c y u size)).2 o
fault_or_lack n input f room (HasChunkFault.later _ _ l d x _ s fault) (LacksChunks.later _ _ k c y u lack) =
    fault_or_lack (n + chunk_size l) x f s.within fault (after_same LacksChunks n input l k d c x y s u lack)
fault_or_lack n input f room x y = same_start n input (of_fault n input f room x) (of_lack n input y)

pub one_fault : (n : ℕ) (input : List ℕ) (f g : BadRequest) → n ≤ body_limit → HasChunkFault n input f → HasChunkFault n input g → (f ≡ g) ⊎ HasTwoFaults n input
one_fault n input f g room (HasChunkFault.bad_line _ _ bad) (HasChunkFault.bad_line _ _ other) = inl refl
one_fault n input f g room (HasChunkFault.bad_line _ _ bad) (HasChunkFault.too_large _ _ k y u large) = absurd (line_or_refused input bad k y u)
one_fault n input f g room (HasChunkFault.too_large _ _ l x s large) (HasChunkFault.bad_line _ _ bad) = absurd (line_or_refused input bad l x s)
one_fault n input f g room (HasChunkFault.too_large _ _ l x s large) (HasChunkFault.too_large _ _ k y u other) = inl refl
one_fault n input f g room (HasChunkFault.bad_end _ _ l d x s size bad) (HasChunkFault.bad_end _ _ k c y u other worse) = inl refl
one_fault n input f g room (HasChunkFault.bad_end _ _ l d x s size bad) (HasChunkFault.later _ _ k c y _ u fault) =
    absurd (no_end_or_end x y (same_start n input (of_chunk n input k c y u) (Start.full l d x s size)).2 bad)
one_fault n input f g room (HasChunkFault.later _ _ l d x _ s fault) (HasChunkFault.bad_end _ _ k c y u size bad) =
    absurd (no_end_or_end y x (same_start n input (of_chunk n input l d x s) (Start.full k c y u size)).2 bad)
one_fault n input f g room (HasChunkFault.bad_trailers _ _ l x _ s bad) (HasChunkFault.bad_trailers _ _ k y _ u other) =
    ⊎_elim (λ same. inl same) (λ both. inr (record { trailers = x; reaches = ReachesTrailers.last n input l x s; many = both.0; never = both.1 }))
    (trailers_fault x f g bad (subst (λ xs. RefusesTrailers xs g) (sym (same_line input l k x y s.line u.line).1) other))
one_fault n input f g room (HasChunkFault.later _ _ l d x _ s fault) (HasChunkFault.later _ _ k c y _ u other) =
    ⊎_elim (λ same. inl same) (λ both. inr (record { trailers = both.trailers; reaches = ReachesTrailers.later n input l d x both.trailers s both.reaches; many = both.many; never = both.never }))
    (one_fault (n + chunk_size l) x f g s.within fault (after_same (λ m xs. HasChunkFault m xs g) n input l k d c x y s u other))
one_fault n input f g room x y = absurd (same_start n input (of_fault n input f room x) (of_fault n input g room y))
