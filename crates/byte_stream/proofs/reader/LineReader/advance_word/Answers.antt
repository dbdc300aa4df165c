use Rattle.{std.proofs.{Common.{◌≡◌, List, ℕ, ◌++◌, sym, subst, ap, ◌∙◌, rules}, lemmas.List.append-nil}, byte_stream.{specs.Words.CutsPart, proofs.ReadingLemmas.counts_more}}
use Rattle.byte_stream.proofs.WordSteps.{past_nothing, past_part, past_fill, ReadsPast, word_given, long_given, part_given, end_given}
use Rattle.byte_stream.proofs.reader.LineReader.advance_word.Goals as goal

pub loop-self-init : goal.loop-self-init
loop-self-init g c = search (rules, past_nothing)

pub returns-in-Word-clause-bytes : goal.returns-in-Word-clause-bytes
returns-in-Word-clause-bytes g c = search (rules, c.loop-self.invariant.read, c.in-Word.ensures.word, word_given)

pub returns-in-Long-clause-bytes : goal.returns-in-Long-clause-bytes
returns-in-Long-clause-bytes g c = search (rules, c.loop-self.invariant.read, c.in-Long.ensures.word, long_given)

pub returns-then-not-has_turns-clause-bytes : goal.returns-then-not-has_turns-clause-bytes
returns-then-not-has_turns-clause-bytes g c = part_given _ _ _ _ _ (past_part _ _ _ _ _ c.loop-self.invariant.read c.in-Part.ensures.word) c.in-Part.ensures.word

pub returns-then-n-eq0-clause-bytes : goal.returns-then-n-eq0-clause-bytes
returns-then-n-eq0-clause-bytes g c =
    let came = c.in-Read.ensures.bytes in
    let over = came.3 c.if-n-eq0.true in
    let same : c.take_word.new.self.held ≡ c.fill.new.self.held =
    sym (came.2 ∙ ap (λ (p : List ℕ). c.take_word.new.self.held ++ p) over.1 ∙ append-nil c.take_word.new.self.held) in
    end_given _ _ _ _ _ c.take_last_word.result c.take_last_word.new.self
    (past_fill _ _ _ _ _ _ _ c.fill.result c.loop-self.invariant.read c.in-Part.ensures.word c.fill.ensures.bytes)
    (subst (λ (p : List ℕ). CutsPart c.loop-self.self.held p) same c.in-Part.ensures.word) over.0 c.take_last_word.ensures.word c.take_last_word.ensures.held

pub loop-self-preserved-else-n-eq0 : goal.loop-self-preserved-else-n-eq0
loop-self-preserved-else-n-eq0 g c = search (rules, c.loop-self.invariant, c.in-Part.ensures, c.fill.ensures, c.in-Read.ensures.failures, past_fill, counts_more)

pub loop-self-preserved : goal.loop-self-preserved
loop-self-preserved g c = record {
  read = past_fill _ _ _ _ _ _ _ c.fill.result c.loop-self.invariant.read c.in-Part.ensures.word c.fill.ensures.bytes;
  number = c.fill.ensures.number ∙ c.in-Part.ensures.number ∙ c.loop-self.invariant.number;
  failures = c.in-Interrupted.ensures.failures ∙ c.loop-self.invariant.failures;
  counted = λ first was. counts_more first _ _ _ _ _ (c.loop-self.invariant.counted first was) c.take_word.ensures.turns c.fill.ensures.turns c.fill.ensures.counted;
}

pub returns-in-Failed-clause-bytes : goal.returns-in-Failed-clause-bytes
returns-in-Failed-clause-bytes g c =
    let same : c.fill.new.self.held ≡ c.take_word.new.self.held = c.in-Failed.ensures.bytes.1 in
    part_given _ _ _ _ _ (subst (λ p. ReadsPast (g.R.Source.remaining c.args.reader.now) (g.R.Source.remaining c.fill.new.reader) c.args.self.now.held p) same
    (past_fill _ _ _ _ _ _ _ c.fill.result c.loop-self.invariant.read c.in-Part.ensures.word c.fill.ensures.bytes)) c.in-Part.ensures.word
