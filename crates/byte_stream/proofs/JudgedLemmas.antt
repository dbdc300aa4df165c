-- Lines that are judged one after the other.
use Rattle.std.{specs.{Io.KnownBytes.IsAtEnd, Str.Lines.{lines, strip_carriage_return}}, proofs.lemmas.{Bool.eqb-true, List.{append-nil, map-append}}}
use Rattle.std.proofs.Common.{◌≡◌, ℕ, ◌+◌, ◌<◌, ◌⊎◌, List, [], ◌∷◌, ◌++◌, Bool, true, false, eqb, Option, None, Some, length, map, refl, sym, ap, ◌∙◌, arith, append_assoc, inl, inr, length-append, rules}
use Rattle.{std.proofs.lemmas.List.Elements.{All-append, All-cons, All-nil}, byte_stream.specs.Reading.{IsLong, IsTooLong, IsLastLine}}
use Rattle.byte_stream.specs.claim.Judged.{Judge, AreGood, IsFirstFault, ShowsFault, with_ends, AreCut, BeginsWithLines, IsCutShort}
use Rattle.byte_stream.{specs.claim.Reading.{NoLineFeed, IsBroken, BeginsWithLine, line_limit}, proofs.BufferLemmas.{stripped, strip_shorter}}
use Rattle.field_text.proofs.TextLemmas.{lines-cut, lines-last}

-- ---- whole lines at the start of a text

pub begins : (text : List ℕ) → BeginsWithLines text [] text
begins text = record { raws = []; cut = refl; each = tt; stripped = refl }

pub begins_more : (text more rest : List ℕ) (ls : List (List ℕ)) → BeginsWithLines text ls rest → BeginsWithLines (text ++ more) ls (rest ++ more)
begins_more text more rest ls b = search (rules, append_assoc)

with_ends-push : (raws : List (List ℕ)) (raw rest : List ℕ) → with_ends raws ++ (raw ++ 10 ∷ rest) ≡ with_ends (raws ++ raw ∷ []) ++ rest
with_ends-push [] raw rest = sym (append_assoc raw (10 ∷ []) rest)
with_ends-push (x ∷ raws) raw rest =
    append_assoc x (10 ∷ with_ends raws) (raw ++ 10 ∷ rest)
    ∙ ap (λ (t : List ℕ). x ++ 10 ∷ t) (with_ends-push raws raw rest)
    ∙ sym (append_assoc x (10 ∷ with_ends (raws ++ raw ∷ [])) rest)

AreCut-push : (raws : List (List ℕ)) (raw : List ℕ) → AreCut raws → NoLineFeed raw → AreCut (raws ++ raw ∷ [])
AreCut-push [] raw each one = (one, tt)
AreCut-push (x ∷ raws) raw each one = (each.0, AreCut-push raws raw each.1 one)

-- one more line
pub begins_line : (text held line rest : List ℕ) (ls : List (List ℕ)) → BeginsWithLines text ls held → BeginsWithLine held line rest → BeginsWithLines text (ls ++ line ∷ []) rest
begins_line text held line rest ls b l = record {
  raws = b.raws ++ l.raw ∷ [];
  cut = b.cut ∙ ap (λ (t : List ℕ). with_ends b.raws ++ t) l.cut ∙ with_ends-push b.raws l.raw rest;
  each = AreCut-push b.raws l.raw b.each l.one;
  stripped = ap (λ (t : List (List ℕ)). t ++ line ∷ []) b.stripped ∙ ap (λ (t : List ℕ). map strip_carriage_return b.raws ++ t ∷ []) l.stripped
      ∙ sym (map-append strip_carriage_return b.raws (l.raw ∷ []));
}

lines-with_ends : (raws : List (List ℕ)) (rest : List ℕ) → AreCut raws → lines (with_ends raws ++ rest) ≡ map strip_carriage_return raws ++ lines rest
lines-with_ends [] rest each = refl
lines-with_ends (x ∷ raws) rest each =
    ap lines (append_assoc x (10 ∷ with_ends raws) rest)
    ∙ lines-cut x (with_ends raws ++ rest) each.0
    ∙ ap (λ (t : List (List ℕ)). strip_carriage_return x ∷ t) (lines-with_ends raws rest each.1)

pub lines-begins : (text rest : List ℕ) (ls : List (List ℕ)) → BeginsWithLines text ls rest → lines text ≡ ls ++ lines rest
lines-begins text rest ls b = search (rules, lines-with_ends)

-- ---- a line that is too long

-- a text is one line, or begins with a line
pub cut_or_one : (text : List ℕ) → NoLineFeed text ⊎ ((raw : List ℕ) × (rest : List ℕ) × (text ≡ raw ++ 10 ∷ rest) × NoLineFeed raw)
cut_or_one [] = inl (All-nil (λ b. eqb b 10 ≡ false))
cut_or_one (x ∷ xs) = at_first (eqb x 10) refl (cut_or_one xs)
  where
    at_first : (b : Bool) → eqb x 10 ≡ b → NoLineFeed xs ⊎ ((raw : List ℕ) × (rest : List ℕ) × (xs ≡ raw ++ 10 ∷ rest) × NoLineFeed raw)
        → NoLineFeed (x ∷ xs) ⊎ ((raw : List ℕ) × (rest : List ℕ) × (x ∷ xs ≡ raw ++ 10 ∷ rest) × NoLineFeed raw)
    at_first true is later = inr ([], xs, ap (λ (b : ℕ). b ∷ xs) (eqb-true x 10 is), All-nil (λ b. eqb b 10 ≡ false))
    at_first false differs (inl one) = inl (All-cons (λ b. eqb b 10 ≡ false) x xs differs one)
    at_first false differs (inr w) = inr (x ∷ w.0, w.1, ap (λ (t : List ℕ). x ∷ t) w.2, All-cons (λ b. eqb b 10 ≡ false) x w.0 differs w.3)

pub NoLineFeed-append : (xs ys : List ℕ) → NoLineFeed xs → NoLineFeed ys → NoLineFeed (xs ++ ys)
NoLineFeed-append xs ys = All-append (λ b. eqb b 10 ≡ false) xs ys

pub long_part : (text raw : List ℕ) → IsLong text → line_limit < length (strip_carriage_return (text ++ raw))
long_part text [] long = rw (append-nil text) long
long_part text (x ∷ raw) long = let s = stripped (text ++ x ∷ raw) in omega (arith, s.2, length-append text (x ∷ raw), strip_shorter text)

-- whatever follows, the first line is too long
pub long_line : (text more : List ℕ) → IsTooLong text → (line : List ℕ) × (after : List (List ℕ)) × (lines (text ++ more) ≡ line ∷ after) × (line_limit < length line)
long_line text more t = elim (cut_or_one more) [
  | inl one ↦
      let bytes : line_limit < length (text ++ more) = omega (arith, strip_shorter text, t.long, length-append text more) in
      (text ++ more, [], lines-last (text ++ more) (NoLineFeed-append text more t.one one) (omega arith), bytes)
  | inr w ↦
      let cut : text ++ more ≡ (text ++ w.0) ++ 10 ∷ w.1 = ap (λ (t' : List ℕ). text ++ t') w.2 ∙ sym (append_assoc text w.0 (10 ∷ w.1)) in
      (strip_carriage_return (text ++ w.0), lines w.1, ap lines cut ∙ lines-cut (text ++ w.0) w.1 (NoLineFeed-append text w.0 t.one w.3), long_part text w.0 t.long)
]

-- ---- judging

split_push : (ls before after : List (List ℕ)) (line l : List ℕ) → ls ++ line ∷ [] ≡ before ++ l ∷ after
    → ((ls ≡ before) × (line ≡ l)) ⊎ ((mid : List (List ℕ)) × (ls ≡ before ++ l ∷ mid))
split_push [] [] after line l e = inl (refl, (cc))
split_push (x ∷ xs) [] after line l e = inr (xs, (cc))
split_push [] (b ∷ bs) after line l e = absurd (omega (arith, ap length e, length-append bs (l ∷ after)))
split_push (x ∷ xs) (b ∷ bs) after line l e =
    let first : x ≡ b = cc in
    elim (split_push xs bs after line l cc) [ inl w ↦ inl (let same = w.0 in (cc), w.1) | inr w ↦ inr (w.0, let same = w.1 in (cc)) ]

pub lines-ended : (text held : List ℕ) (ls : List (List ℕ)) → BeginsWithLines text ls held → held ≡ [] → lines text ≡ ls
lines-ended text held ls b none = lines-begins text held ls b ∙ ap (λ (t : List ℕ). ls ++ lines t) none ∙ append-nil ls

pub lines-last_one : (text held line : List ℕ) (ls : List (List ℕ)) → BeginsWithLines text ls held → IsLastLine held line → lines text ≡ ls ++ line ∷ []
lines-last_one text held line ls b l =
    lines-begins text held ls b ∙ ap (λ (t : List (List ℕ)). ls ++ t) (lines-last held l.one l.some ∙ ap (λ (t : List ℕ). t ∷ []) (sym l.is))

module _ {F : Type 0} (judge : Judge F) where
  pub good_none : AreGood judge []
  good_none = record { each = λ before line after e. absurd (omega (arith, ap length e, length-append before (line ∷ after))) }

  pub good_more : (ls : List (List ℕ)) (line : List ℕ) → AreGood judge ls → judge ls line ≡ None → AreGood judge (ls ++ line ∷ [])
  good_more ls line good is = search (rules, split_push)

  first_at : (ls all after : List (List ℕ)) (line : List ℕ) (fault : F) → all ≡ ls ++ line ∷ after → AreGood judge ls → judge ls line ≡ Some fault
      → IsFirstFault judge all (length ls + 1) fault
  first_at ls all after line fault cut good is = record { before = ls; line = line; after = after; cut = cut; counted = refl; judged = is; good = good }

  -- a line that ends has the fault
  pub shown_line : (text held line rest : List ℕ) (left : Option (List ℕ)) (ls : List (List ℕ)) (fault : F) → BeginsWithLines text ls held → BeginsWithLine held line rest
      → AreGood judge ls → judge ls line ≡ Some fault → ShowsFault judge text left (length ls + 1) fault
  shown_line text held line rest left ls fault b l good is = inl (λ more.
      first_at ls (lines (text ++ more)) (lines (rest ++ more)) line fault
      (lines-begins (text ++ more) (rest ++ more) (ls ++ line ∷ []) (begins_more text more rest (ls ++ line ∷ []) (begins_line text held line rest ls b l))
      ∙ append_assoc ls (line ∷ []) (lines (rest ++ more)))
      good is)

  -- the last line has it
  pub shown_last : (text held line : List ℕ) (left : Option (List ℕ)) (ls : List (List ℕ)) (fault : F) → BeginsWithLines text ls held → IsAtEnd left → IsLastLine held line
      → AreGood judge ls → judge ls line ≡ Some fault → ShowsFault judge text left (length ls + 1) fault
  shown_last text held line left ls fault b end l good is =
      inr (end, first_at ls (lines text) [] line fault (lines-last_one text held line ls b l) good is)

  -- a line that is too long has it
  pub shown_long : (text held : List ℕ) (left : Option (List ℕ)) (ls : List (List ℕ)) (fault : F) → BeginsWithLines text ls held → IsTooLong held
      → AreGood judge ls → ((line : List ℕ) → line_limit < length line → judge ls line ≡ Some fault) → ShowsFault judge text left (length ls + 1) fault
  shown_long text held left ls fault b t good is = inl (λ more.
      let found = long_line held more t in
      first_at ls (lines (text ++ more)) found.1 found.0 fault
      (lines-begins (text ++ more) (held ++ more) ls (begins_more text more held ls b) ∙ ap (λ (t' : List (List ℕ)). ls ++ t') found.2)
      good (is found.0 found.3))

  pub cut_short : (text held : List ℕ) (ls : List (List ℕ)) → BeginsWithLines text ls held → IsBroken held → AreGood judge ls → IsCutShort judge text (length ls + 1)
  cut_short text held ls b broken good = record { whole = ls; rest = held; begins = b; broken = broken; good = good; counted = refl }
