use Rattle.{std.{specs.List.slice_range, proofs.{Common.{length, sym, ap, ◌∙◌, arith, length-take, rules}, lemmas.Slice.between_to_end}}, byte_stream.specs.claim.Words.words}
use Rattle.byte_stream.proofs.WordLemmas.{next_is, next_none}
use Rattle.byte_stream.proofs.words.Words.next_word.Goals as goal

pub returns-then-len-eq0-clause-word : goal.returns-then-len-eq0-clause-word
returns-then-len-eq0-clause-word c =
    let text = c.self.inside.rest.now in
    let n = c.separators_before.result in
    let m = c.bytes_before-len.result in
    let prefix = slice_range text n (length text) in
    let none =
    next_none text prefix n m
    (between_to_end text n (length text) (omega arith)) c.separators_before.ensures.before c.bytes_before-len.ensures.ends c.separators_before.ensures.within c.separators_before.ensures.ends c.if-len-eq0.true in
    (sym c.self.view_is ∙ none.0, ap words (between_to_end prefix m (length prefix) (omega arith)) ∙ none.1)

pub returns-clause-word : goal.returns-clause-word
returns-clause-word c =
    search (rules, c.separators_before.ensures.before, c.bytes_before-len.ensures.within, c.bytes_before-len.ensures.before, c.bytes_before-len.ensures.ends, next_is, between_to_end, length-take)
