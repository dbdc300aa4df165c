-- Words at the start of a text.
use Rattle.std.{specs.List.slice_range, proofs.lemmas.{Bool.{false≢true, cases_lt}, List.{take_all, drop_all, drop_more, take-append-drop, get_or-drop}}}
use Rattle.std.proofs.Common.{◌≡◌, ℕ, zero, suc, ◌+◌, ◌-◌, ◌<◌, ◌≤◌, true, false, List, [], ◌∷◌, ◌++◌, length, take, drop, get_or, sym, ap, ◌∙◌, arith, length-take, length-drop, inl, inr, rules}
use Rattle.byte_stream.specs.{Words.{IsWord, CutsWord, CutsPart, CutsLong}, claim.Words.{is_separator, words, AreSeparators, NoSeparator, word_limit}}
use Rattle.byte_stream.proofs.{BufferLemmas.{tail_is, front_is}, WordLaws.{words-none, words-separator, words-past, words-word, words-last}}

-- a text, cut after some bytes, and at one of its bytes
parted : (text prefix : List ℕ) (n : ℕ) → prefix ≡ drop n text → text ≡ take n text ++ prefix
parted text prefix n after = sym (take-append-drop n text) ∙ ap (λ (r : List ℕ). take n text ++ r) (sym after)

cut_at : (text : List ℕ) (n : ℕ) → n < length text → text ≡ take n text ++ (get_or text n 0 ∷ drop (n + 1) text)
cut_at text n inside = parted text _ n (sym (drop_more text n 0 inside))

some_word : (text prefix : List ℕ) (n m : ℕ) → prefix ≡ drop n text → n + m < length text → (n < length text → is_separator (get_or text n 0) ≡ false)
    → (m < length prefix → is_separator (get_or prefix m 0) ≡ true) → 0 < m
some_word text prefix n zero after inside stops ends = let at_end = rw after at ends in search (rules, get_or-drop, false≢true, length-drop)
some_word text prefix n (suc m) after inside stops ends = omega arith

-- what was found in a buffer, in the words of what it holds
module _ (held buffer h prefix : List ℕ) (s e n m : ℕ) (view : slice_range buffer s e ≡ held) (same : slice_range buffer s e ≡ h) (after : prefix ≡ drop n h) where
  long : length prefix ≡ length h - n
  long = ap length after ∙ length-drop n h

  pub taken_word : AreSeparators (take n h) → (n < length h → is_separator (get_or h n 0) ≡ false) → NoSeparator (take m prefix)
      → (m < length prefix → is_separator (get_or prefix m 0) ≡ true)
      → m ≤ word_limit → n + m < length h → CutsWord held (slice_range buffer (s + n) (s + n + m)) (slice_range buffer (s + n + m + 1) e)
  taken_word blank stops one ends short inside =
      let rest : slice_range buffer (s + n) e ≡ prefix = tail_is buffer h s e n same ∙ sym after in
      let within : m < length prefix = omega (arith, long) in
      let counted : length (take m prefix) ≡ m = omega (arith, length-take m prefix) in
      let count : s + n + m + 1 ≡ s + n + (m + 1) = omega arith in
      let cut = parted h prefix n after ∙ ap (λ (r : List ℕ). take n h ++ r) (cut_at prefix m within) in
      let is : IsWord (take m prefix) = record { some = rw counted (some_word h prefix n m after inside stops ends); one = one } in
      rw (sym view ∙ same, front_is buffer prefix (s + n) e m rest (omega arith), count, tail_is buffer prefix (s + n) e (m + 1) rest)
      (record { blanks = take n h; separator = get_or prefix m 0; cut = cut; blank = blank; is = is; short = omega arith; ends = ends within })

  pub taken_part : AreSeparators (take n h) → NoSeparator (take m prefix) → m ≤ word_limit → length h ≤ n + m → CutsPart held (slice_range buffer (s + n) e)
  taken_part blank one short whole =
      rw (sym view ∙ same, tail_is buffer h s e n same ∙ sym after)
      (record { blanks = take n h; cut = parted h prefix n after; blank = blank; one = rw (take_all m prefix (omega (arith, long))) at one; short = omega (arith, long) })

  pub taken_long : AreSeparators (take n h) → NoSeparator (take m prefix) → word_limit < m → m ≤ length prefix → CutsLong held
  taken_long blank one over within =
      let cut = parted h prefix n after ∙ ap (λ (r : List ℕ). take n h ++ r) (sym (take-append-drop m prefix)) in
      let part = take m prefix in
      let over_long : word_limit < length part = omega (arith, length-take m prefix) in
      rw (sym view ∙ same) (record { blanks = take n h; part = part; rest = drop m prefix; cut = cut; blank = blank; one = one; long = over_long })

-- the first word of a slice, or none
module _ (text prefix : List ℕ) (n m : ℕ) (after : prefix ≡ drop n text) (blank : AreSeparators (take n text)) (ends : m < length prefix → is_separator (get_or prefix m 0) ≡ true) where
  passed : words text ≡ words prefix
  passed = ap words (parted text prefix n after) ∙ words-past (take n text) prefix blank

  pub next_is : IsWord (take m prefix) → words text ≡ take m prefix ∷ words (drop m prefix)
  next_is is = passed ∙ elim (cases_lt m (length prefix)) [
    | inl inside ↦
        ap words (cut_at prefix m inside) ∙ words-word (take m prefix) (get_or prefix m 0) (drop (m + 1) prefix) is (ends inside)
        ∙ ap (λ (ws : List (List ℕ)). take m prefix ∷ ws)
        (sym (ap words (drop_more prefix m 0 inside) ∙ words-separator (get_or prefix m 0) (drop (m + 1) prefix) (ends inside)))
    | inr past ↦
        ap words (sym (take_all m prefix past)) ∙ words-last (take m prefix) is
        ∙ ap (λ (ws : List (List ℕ)). take m prefix ∷ ws) (sym (ap words (drop_all m prefix past) ∙ words-none))
  ]

  pub next_none : n ≤ length text → (n < length text → is_separator (get_or text n 0) ≡ false) → m ≡ 0 → (words text ≡ []) × (words (drop m prefix) ≡ [])
  next_none order stops nothing = elim (cases_lt n (length text)) [
    | inl inside ↦ let some = some_word text prefix n m after (omega arith) stops ends in absurd (omega arith)
    | inr past ↦
        let none : prefix ≡ [] = after ∙ drop_all n text past in
        (passed ∙ ap words none ∙ words-none, ap words (drop_all m prefix (omega (arith, ap length none))) ∙ words-none)
  ]
