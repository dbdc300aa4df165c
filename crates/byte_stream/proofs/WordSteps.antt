-- Steps of a reader of words, one after the other.
use Rattle.std.{specs.Io.KnownBytes.{Consumes, IsAtEnd}, proofs.Common.{◌≡◌, ℕ, List, [], ◌++◌, Option, Ok, true, sym, ap, ◌∙◌, arith, append_assoc, length-append, rules}}
use Rattle.{std.proofs.{KnownBytes.{Consumes-nil, Consumes-trans}, lemmas.List.{append-nil, Elements.All-append}}, byte_stream.specs.Reading.{Reading, Fills}}
use Rattle.byte_stream.specs.{Words.{IsWord, BeginsWithWord, BeginsWithLongWord, GivesWord, CutsWord, CutsPart, CutsLong, TakesLastWord}, declared.reader.WordStep.WordStep}
use Rattle.byte_stream.specs.{claim.Words.{is_separator, words, AreSeparators, IsBrokenWord}, declared.{reader.WordStep.TheVariants.{Word, LastWord, End}, source.Turn.Turn}}
use Rattle.byte_stream.{specs.declared.source.Turn.TheVariants.Read, proofs.WordLaws.{words-none, words-past, words-word, words-last, words-goes_on}}

-- the source gave more bytes, and of all that came separators are passed and the rest is held
pub record ReadsPast (before after : Option (List ℕ)) (old held : List ℕ) : Type 0 where
  pub more : List ℕ
  pub blanks : List ℕ
  pub consumes : Consumes before after more
  pub text : old ++ more ≡ blanks ++ held
  pub blank : AreSeparators blanks

pub past_nothing : (before : Option (List ℕ)) (old : List ℕ) → ReadsPast before before old old
past_nothing before old =
    record { more = []; blanks = []; consumes = Consumes-nil before; text = append-nil old; blank = λ k d inside. absurd (omega arith) }

pub past_part : (before after : Option (List ℕ)) (old held part : List ℕ) → ReadsPast before after old held → CutsPart held part → ReadsPast before after old part
past_part before after old held part reads cuts =
    let text = reads.text ∙ ap (λ (h : List ℕ). reads.blanks ++ h) cuts.cut ∙ sym (append_assoc reads.blanks cuts.blanks part) in
    let blank = All-append (λ b. is_separator b ≡ true) reads.blanks cuts.blanks reads.blank cuts.blank in
    record { more = reads.more; blanks = reads.blanks ++ cuts.blanks; consumes = reads.consumes; text = text; blank = blank }

past_turn : (before between after : Option (List ℕ)) (old held new piece : List ℕ) → ReadsPast before between old held → Consumes between after piece → new ≡ held ++ piece
    → ReadsPast before after old new
past_turn before between after old held new piece reads came is = search (rules, Consumes-trans, append_assoc)

-- after a turn too
pub past_fill : (before between after : Option (List ℕ)) (old held part new : List ℕ) (turn : Turn) → ReadsPast before between old held → CutsPart held part
    → Fills between after part turn new → ReadsPast before after old new
past_fill before between after old held part new (Read n) reads cuts fills =
    past_turn before between after old part new fills.0 (past_part before between old held part reads cuts) fills.1 fills.2
past_fill before between after old held part new _ reads cuts fills =
    past_turn before between after old part new [] (past_part before between old held part reads cuts) fills.0 (fills.1 ∙ sym (append-nil part))

words_on : (before after : Option (List ℕ)) (old held next : List ℕ) (reads : ReadsPast before after old held) → words ((old ++ reads.more) ++ next) ≡ words (held ++ next)
words_on before after old held next reads = search (rules, append_assoc, words-past)

words_of : (before after : Option (List ℕ)) (old held : List ℕ) (reads : ReadsPast before after old held) → words (old ++ reads.more) ≡ words held
words_of before after old held reads = ap words reads.text ∙ words-past reads.blanks held reads.blank

pub word_given : (before after : Option (List ℕ)) (old held word rest : List ℕ) → ReadsPast before after old held → CutsWord held word rest
    → (more : List ℕ) × Consumes before after more × BeginsWithWord (old ++ more) word rest
word_given before after old held word rest reads cuts = search (rules, words_on, append_assoc, words-past, words-word)

pub long_given : (before after : Option (List ℕ)) (old held : List ℕ) → ReadsPast before after old held → CutsLong held
    → (more : List ℕ) × Consumes before after more × BeginsWithLongWord (old ++ more)
long_given before after old held reads cuts = (
  reads.more,
  reads.consumes,
  λ next.
      let on = words-goes_on cuts.part (cuts.rest ++ next) (record { some = omega (arith, cuts.long); one = cuts.one }) in (
        cuts.part ++ on.0,
        on.1,
        words_on before after old held next reads
            ∙ ap (λ (t : List ℕ). words (t ++ next)) cuts.cut
            ∙ ap words (append_assoc cuts.blanks (cuts.part ++ cuts.rest) next)
            ∙ words-past cuts.blanks ((cuts.part ++ cuts.rest) ++ next) cuts.blank
            ∙ ap words (append_assoc cuts.part cuts.rest next)
            ∙ on.2,
        omega (arith, cuts.long, length-append cuts.part on.0),
      ),
)

pub part_given : (before after : Option (List ℕ)) (old held part : List ℕ) → ReadsPast before after old part → CutsPart held part
    → (more : List ℕ) × Consumes before after more × IsBrokenWord (old ++ more)
part_given before after old held part reads cuts = search rules

-- the text's end ends the part that is held
pub end_given : (before after : Option (List ℕ)) (old held part : List ℕ) (step : WordStep) (new : Reading) → ReadsPast before after old part → CutsPart held part
    → IsAtEnd after → TakesLastWord part step new.line → new.held ≡ [] → (more : List ℕ) × Consumes before after more × GivesWord (old ++ more) after (Ok step) new
end_given before after old held part Word new reads cuts over takes empty = absurd takes
end_given before after old held part LastWord new reads cuts over takes empty =
    let is : IsWord part = record { some = takes.1; one = cuts.one } in
    let gives = words_of before after old part reads ∙ words-last part is in
    (reads.more, reads.consumes, (over, rw takes.0 (record { gives = gives; is = is; short = cuts.short }), empty))
end_given before after old held part End new reads cuts over takes empty =
    (reads.more, reads.consumes, (over, words_of before after old part reads ∙ ap words takes ∙ words-none, empty))
