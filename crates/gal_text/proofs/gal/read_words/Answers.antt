use Rattle.{std.proofs.Common.{◌-◌, ◌∙◌, inl, inr, arith, rules}, gal_text.proofs.StandLemmas.{stands_start, stands_word, told_refused, told_fault, told_last_end}}
use Rattle.gal_text.proofs.gal.read_words.Goals as goal

pub loop-graph-init : goal.loop-graph-init
loop-graph-init g c = search (rules, c.requires.first, c.requires.starts, stands_start)

pub returns-in-Err-take-clause-read : goal.returns-in-Err-take-clause-read
returns-in-Err-take-clause-read g c =
    let came = rw c.in-Ok-Word.field-0-is at c.in-Ok-Word.ensures.bytes in
    told_refused c.args.blocks.now _ _ _ _
    (g.R.Source.remaining c.advance_word.new.reader) _ came.0 _ _ c.loop-graph.invariant.stands came.1 _ c.take.new.self c.in-Err-take.refusal _
    (c.number.result - 1) c.line.result.now
    c.refused.ensures (omega (arith, c.number.ensures, rw c.in-Ok-Word.field-0-is at c.in-Ok-Word.ensures.number)) c.line.ensures (inl (_, came.2)) c.in-Err-take.ensures

pub loop-graph-preserved : goal.loop-graph-preserved
loop-graph-preserved g c =
    let came = rw c.in-Ok-Word.field-0-is at c.in-Ok-Word.ensures.bytes in
    record {
      stands = rw (rw c.in-Ok-Word.field-0-is at c.in-Ok-Word.ensures.number)
          (stands_word c.args.blocks.now _ _ _ _ (g.R.Source.remaining c.advance_word.new.reader) _ came.0 _ _ c.loop-graph.invariant.stands came.1 _ _ c.take.new.self c.in_default.field-0 (c.number.result - 1) c.line.result.now
          (omega (arith, c.number.ensures, rw c.in-Ok-Word.field-0-is at c.in-Ok-Word.ensures.number)) c.line.ensures came.2 c.in_default.ensures);
      counted = λ first was. c.advance_word.ensures.counted first (c.loop-graph.invariant.counted first was);
      failures = (rw c.in-Ok-Word.field-0-is at c.in-Ok-Word.ensures.failures) ∙ c.loop-graph.invariant.failures;
    }

pub returns-in-Err-take-2-clause-read : goal.returns-in-Err-take-2-clause-read
returns-in-Err-take-2-clause-read g c =
    let came = rw c.in-Ok-LastWord.field-0-is at c.in-Ok-LastWord.ensures.bytes in
    told_refused c.args.blocks.now _ _ _ _
    (g.R.Source.remaining c.advance_word.new.reader) _ came.0 _ _ c.loop-graph.invariant.stands came.1 _ c.take-in-Ok-LastWord.new.self c.in-Err-take-2.refusal _
    (c.number-in-Ok-LastWord.result - 1) c.line-in-Ok-LastWord.result.now
    c.refused-in-Err-take-2.ensures
    (omega (arith, c.number-in-Ok-LastWord.ensures, rw c.in-Ok-LastWord.field-0-is at c.in-Ok-LastWord.ensures.number)) c.line-in-Ok-LastWord.ensures (inr (came.2.0, came.2.1)) c.in-Err-take-2.ensures

pub returns-in-Ok-LastWord-clause-read : goal.returns-in-Ok-LastWord-clause-read
returns-in-Ok-LastWord-clause-read g c =
    let came = rw c.in-Ok-LastWord.field-0-is at c.in-Ok-LastWord.ensures.bytes in
    told_last_end c.args.blocks.now _ _ _ _
    (g.R.Source.remaining c.advance_word.new.reader) _ came.0 _ _ c.loop-graph.invariant.stands came.1 _ c.take-in-Ok-LastWord.new.self c.in_default-take.field-0
    (c.number-in-Ok-LastWord.result - 1) c.line-in-Ok-LastWord.result.now
    (omega (arith, c.number-in-Ok-LastWord.ensures, rw c.in-Ok-LastWord.field-0-is at c.in-Ok-LastWord.ensures.number)) c.line-in-Ok-LastWord.ensures came.2.0 came.2.1 c.in_default-take.ensures

pub returns-in-Err-clause-read : goal.returns-in-Err-clause-read
returns-in-Err-clause-read g c =
    let came = c.in-Err.ensures.bytes in
    told_fault c.args.blocks.now _ _ _ _
    (g.R.Source.remaining c.advance_word.new.reader) _ came.0 _ _ c.loop-graph.invariant.stands came.1 c.long_fault.result c.in-Err.fault c.advance_word.new.self _ _
    c.read_told.ensures (c.number-in-Err.ensures ∙ c.in-Err.ensures.number) (c.long_fault.ensures c.args.blocks.now) came.2
