-- The words of a neighbour file, one after the other.
use Rattle.{std.{specs.Io.KnownBytes.{Consumes, IsAtEnd}, proofs.{KnownBytes.{Consumes-nil, Consumes-trans}, lemmas.List.append-nil}}, byte_stream.specs.Reading.Reading}
use Rattle.std.proofs.Common.{◌≡◌, ◌⊎◌, ℕ, ◌+◌, ◌<◌, List, [], ◌∷◌, ◌++◌, length, Option, Result, Ok, Err, refl, sym, ap, ◌∙◌, arith, append_assoc, length-append, inl, inr, rules}
use Rattle.byte_stream.specs.{Words.{BeginsWithWord, IsOneWord, GivesWord}, claim.Words.{words, word_limit, IsBrokenWord}, declared.reader.ReadFault.ReadFault}
use Rattle.{desk_model.specs.{claim.Geography.ids_of, declared.block.BlockRow.BlockRow}, gal_text.specs.{Holding.{Holds, Takes}, declared.fault.GalFault.GalFault}}
use Rattle.gal_text.specs.{Parts.{Stands, ReadsWords, AreCutWords, refused, read_told}, claim.Units.{Progress, at_start, word_read, words_read, go_on}, declared.units.Graph.Graph}
use Rattle.gal_text.specs.declared.{fault.TextFault.TextFault, units.UnitRefusal.UnitRefusal}
use Rattle.byte_stream.specs.declared.reader.ReadFault.TheVariants as read
use Rattle.gal_text.specs.declared.units.UnitRefusal.TheVariants as refusal

-- ---- words after words

go_on-ok : (r : Result Progress TextFault) → go_on r (λ p. Ok p) ≡ r
go_on-ok (Ok p) = refl
go_on-ok (Err f) = refl

go_on-words : (ids : List ℕ) (at : ℕ) (w : List ℕ) (ws more : List (List ℕ))
    → ((q : Progress) → words_read ids q (at + 1) (ws ++ more) ≡ go_on (words_read ids q (at + 1) ws) (λ n. words_read ids n (at + 1 + length ws) more))
    → (r : Result Progress TextFault) → go_on r (λ q. words_read ids q (at + 1) (ws ++ more)) ≡ go_on (go_on r (λ q. words_read ids q (at + 1) ws)) (λ n. words_read ids n (at + length (w ∷ ws)) more)
go_on-words ids at w ws more each (Ok q) = search rules
go_on-words ids at w ws more each (Err f) = refl

pub words_read-append : (ids : List ℕ) (p : Progress) (at : ℕ) (ws more : List (List ℕ))
    → words_read ids p at (ws ++ more) ≡ go_on (words_read ids p at ws) (λ q. words_read ids q (at + length ws) more)
words_read-append ids p at [] more = let same : at ≡ at + 0 = omega arith in ap (λ (k : ℕ). words_read ids p k more) same
words_read-append ids p at (w ∷ ws) more = go_on-words ids at w ws more (λ q. words_read-append ids q (at + 1) ws more) (word_read ids p at w)

module _ (ids : List ℕ) (s p : Progress) (ws : List (List ℕ)) (said : words_read ids s 1 ws ≡ Ok p) where
  after : (more : List (List ℕ)) → words_read ids s 1 (ws ++ more) ≡ words_read ids p (length ws + 1) more
  after more = search (rules, words_read-append)

  pub said_more : (w : List ℕ) (q : Progress) → word_read ids p (length ws + 1) w ≡ Ok q → words_read ids s 1 (ws ++ w ∷ []) ≡ Ok q
  said_more w q is = after (w ∷ []) ∙ go_on-ok (word_read ids p (length ws + 1) w) ∙ is

  pub said_fault : (w : List ℕ) (more : List (List ℕ)) (f : TextFault) → word_read ids p (length ws + 1) w ≡ Err f → words_read ids s 1 (ws ++ w ∷ more) ≡ Err f
  said_fault w more f is = after (w ∷ more) ∙ ap (λ (r : Result Progress TextFault). go_on r (λ q. words_read ids q (length ws + 1 + 1) more)) is

-- ---- how far the words have come

module _ (blocks : List BlockRow) (count : ℕ) (start : List ℕ) (old : Option (List ℕ)) where
  pub stands_start : (g : Graph) → Holds blocks g (at_start count) → Stands blocks count start old old start 1 g
  stands_start g holds =
      let words_are = λ (more : List ℕ). ap (λ (t : List ℕ). words (t ++ more)) (append-nil start) in
      let consumed = Consumes-nil old in let progress = at_start count in
      record { came = []; consumed = consumed; whole = []; words_are = words_are; progress = progress; said = refl; holds = holds; counted = refl }

  -- what was judged of the word at hand, of any progress that the state holds
  abbrev pub Took : Graph → ℕ → List ℕ → Result (Unit {0}) UnitRefusal → Graph → Type 0
  Took g number word result new = (p : Progress) → Holds blocks g p → Takes blocks p number word result new

  -- what is told of the bytes that came
  abbrev pub Told : Option (List ℕ) → Result Graph GalFault → Type 0
  Told left result = (more : List ℕ) × Consumes old left more × ReadsWords blocks count (start ++ more) left result

  module _ (between left : Option (List ℕ)) (was more : List ℕ) (number : ℕ) (g : Graph) (before : Stands blocks count start old between was number g) (came : Consumes between left more) where
    stands : Stands blocks count start old left (was ++ more) number g
    stands = search (rules, before, Consumes-trans, append_assoc)

    -- the word at hand is the next one
    took_next : (new : Graph) (at : ℕ) (given word : List ℕ) (r : Result (Unit {0}) UnitRefusal) → at ≡ number → given ≡ word → Took g at given r new
        → Takes blocks stands.progress (length stands.whole + 1) word r new
    took_next new at given word r same_number same took = rw (← same, sym (same_number ∙ stands.counted)) (took stands.progress stands.holds)

    whole_words : words (start ++ stands.came) ≡ stands.whole ++ words (was ++ more)
    whole_words = ap words (sym (append-nil (start ++ stands.came))) ∙ stands.words_are [] ∙ ap (λ (t : List ℕ). stands.whole ++ words t) (append-nil (was ++ more))

    -- a word that was taken
    pub stands_word : (word rest : List ℕ) (new : Graph) (u : Unit {0}) (at : ℕ) (given : List ℕ) → at ≡ number → given ≡ word → BeginsWithWord (was ++ more) word rest
        → Took g at given (Ok u) new → Stands blocks count start old left rest (number + 1) new
    stands_word word rest new u at given same_number same b took =
        let is = took_next new at given word (Ok u) same_number same took in
        let all = stands.whole ++ word ∷ [] in
        let words_are = λ (next : List ℕ). stands.words_are next ∙ ap (λ (ws : List (List ℕ)). stands.whole ++ ws) (b.gives next)
        ∙ sym (append_assoc stands.whole (word ∷ []) (words (rest ++ next))) in
        let said = said_more (ids_of blocks) (at_start count) stands.progress stands.whole stands.said word is.0 is.1 in
        let counted : number + 1 ≡ length all + 1 = omega (arith, stands.counted, length-append stands.whole (word ∷ [])) in
        let came = stands.came in let consumed = stands.consumed in
        record { came = came; consumed = consumed; whole = all; words_are = words_are; progress = is.0; said = said; holds = is.2; counted = counted }

    -- ---- the end

    pub told_last_end : (word : List ℕ) (new : Graph) (u : Unit {0}) (at : ℕ) (given : List ℕ) → at ≡ number → given ≡ word → IsAtEnd left → IsOneWord (was ++ more) word
        → Took g at given (Ok u) new → Told left (Ok new)
    told_last_end word new u at given same_number same end one took =
        let is = took_next new at given word (Ok u) same_number same took in
        let said = ap (words_read (ids_of blocks) (at_start count) 1) (whole_words ∙ ap (λ (ws : List (List ℕ)). stands.whole ++ ws) one.gives)
        ∙ said_more (ids_of blocks) (at_start count) stands.progress stands.whole stands.said word is.0 is.1 in
        (stands.came, stands.consumed, (end, record { progress = is.0; said = said; holds = is.2 }))

    -- ---- why there is no state

    pub told_refused : (word : List ℕ) (new : Graph) (r : UnitRefusal) (e : GalFault) (at : ℕ) (given : List ℕ) → e ≡ refused r → at ≡ number → given ≡ word
        → ((rest : List ℕ) × BeginsWithWord (was ++ more) word rest) ⊎ (IsAtEnd left × IsOneWord (was ++ more) word)
        → Took g at given (Err r) new → Told left (Err e)
    told_refused word new (refusal.Fault f) e at given is same_number same (inl b) took =
        let said = λ (next : List ℕ). ap (words_read (ids_of blocks) (at_start count) 1)
        (stands.words_are next ∙ ap (λ (ws : List (List ℕ)). stands.whole ++ ws) (b.1.gives next))
        ∙ said_fault (ids_of blocks) (at_start count) stands.progress stands.whole stands.said word (words (b.0 ++ next)) f
        (took_next new at given word (Err (refusal.Fault f)) same_number same took) in
        rw is (stands.came, stands.consumed, inl said)
    told_refused word new (refusal.Fault f) e at given is same_number same (inr l) took =
        let said = ap (words_read (ids_of blocks) (at_start count) 1) (whole_words ∙ ap (λ (ws : List (List ℕ)). stands.whole ++ ws) l.1.gives)
        ∙ said_fault (ids_of blocks) (at_start count) stands.progress stands.whole stands.said word [] f
        (took_next new at given word (Err (refusal.Fault f)) same_number same took) in
        rw is (stands.came, stands.consumed, inr (l.0, said))
    told_refused word new refusal.Memory e at given is same_number same told took = rw is (stands.came, stands.consumed, tt)

    told_cut : IsBrokenWord (was ++ more) → AreCutWords (ids_of blocks) count (start ++ stands.came)
    told_cut broken = search (rules, stands)

    pub told_fault : (long : TextFault) (f : ReadFault) (r : Reading) (e : GalFault) (at : ℕ) → e ≡ read_told long f → at ≡ number
        → ((p : Progress) (word : List ℕ) → Holds blocks g p → word_limit < length word → word_read (ids_of blocks) p at word ≡ Err long) → GivesWord (was ++ more) left (Err f) r
        → Told left (Err e)
    told_fault long read.TooLong r e at is same is_long gives =
        let said = λ (next : List ℕ).
        (let w = gives next in
        ap (words_read (ids_of blocks) (at_start count) 1) (stands.words_are next ∙ ap (λ (ws : List (List ℕ)). stands.whole ++ ws) w.2)
        ∙ said_fault (ids_of blocks) (at_start count) stands.progress stands.whole stands.said w.0 w.1 long
        (rw (same ∙ stands.counted) at (is_long stands.progress w.0 stands.holds w.3))) in
        rw is (stands.came, stands.consumed, inl said)
    told_fault long _ r e at is same is_long gives = rw is (stands.came, stands.consumed, told_cut gives)
