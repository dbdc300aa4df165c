use Rattle.std.{specs.List.slice_range, proofs.{Common.{List, ℕ, length, drop, ◌-◌, sym, ap, arith, length-take, length-drop, rules}, lemmas.Slice.between_to_end}}
use Rattle.byte_stream.{specs.Reading.Reading, proofs.WordLemmas.{taken_word, taken_part, taken_long}}
use Rattle.byte_stream.proofs.reader.LineReader.take_word.Goals as goal

pub returns-then-word_len-gt-WORD_LIMIT-clause-word : goal.returns-then-word_len-gt-WORD_LIMIT-clause-word
returns-then-word_len-gt-WORD_LIMIT-clause-word c =
    let h = slice_range c.deref.result.now c.self.inside.start c.self.inside.end in
    let n = c.separators_before-blanks.result in
    let m = c.bytes_before-word_len.result in
    taken_long c.args.self.now.held c.self.inside.buffer.items h (slice_range h n (length h)) c.self.inside.start c.self.inside.end n m
    (ap (λ (r : Reading). r.held) c.self.view_is) (ap (λ (b : List ℕ). slice_range b c.self.inside.start c.self.inside.end) (sym c.deref.ensures.value)) (between_to_end h n (length h) (omega arith))
    c.separators_before-blanks.ensures.before c.bytes_before-word_len.ensures.before (omega arith) c.bytes_before-word_len.ensures.within

pub returns-then-word_end-self-clause-word : goal.returns-then-word_end-self-clause-word
returns-then-word_end-self-clause-word c =
    let h = slice_range c.deref.result.now c.self.inside.start c.self.inside.end in
    let n = c.separators_before-blanks.result in
    let m = c.bytes_before-word_len.result in
    taken_part c.args.self.now.held c.self.inside.buffer.items h (slice_range h n (length h)) c.self.inside.start c.self.inside.end n m
    (ap (λ (r : Reading). r.held) c.self.view_is) (ap (λ (b : List ℕ). slice_range b c.self.inside.start c.self.inside.end) (sym c.deref.ensures.value)) (between_to_end h n (length h) (omega arith))
    c.separators_before-blanks.ensures.before c.bytes_before-word_len.ensures.before (omega arith)
    (omega (arith, length-take (c.self.inside.end - c.self.inside.start) (drop c.self.inside.start c.deref.result.now), length-drop c.self.inside.start c.deref.result.now, c.bytes_before-word_len.ensures.within, length-drop n h, length-take (length h - n) (drop n h), c.deref.ensures.len))

pub returns-clause-word : goal.returns-clause-word
returns-clause-word c =
    search (rules, c.deref.ensures.value, c.separators_before-blanks.ensures.before, c.separators_before-blanks.ensures.ends, c.bytes_before-word_len.ensures.before, c.bytes_before-word_len.ensures.ends, c.bytes_before-word_len.ensures.within, c.deref.ensures.len, taken_word, between_to_end, length-take, length-drop)
