use Rattle.{std.proofs.Common.{ℕ, ◌+◌, ap, ◌∙◌, inl, inr, rules}, pl94_segment.specs.{SegFile.{told, refused}, claim.Records.judge}}
use Rattle.{pl94_geo.proofs.LineLemmas.{judged_none, judged_more}, pl94_segment.proofs.SegLemmas.{stands_on, told_refused, told_fault, told_end, told_last_end}}
use Rattle.pl94_segment.proofs.segment.SegmentReader.read.Goals as goal

pub loop-rows-init : goal.loop-rows-init
loop-rows-init g c = search (rules, c.in-Ok.ensures.number, c.in-Ok.ensures.held, c.new-rows.ensures, c.in-Ok.ensures.turns, judged_none)

pub returns-in-Err-judge_line-clause-read : goal.returns-in-Err-judge_line-clause-read
returns-in-Err-judge_line-clause-read g c =
    let came = rw c.in-Ok-Line.field-0-is at c.in-Ok-Line.ensures.bytes in
    let counted = rw c.in-Ok-Line.field-0-is at c.in-Ok-Line.ensures.number in
    told_refused c.args.part _ _
    (g.R.Source.remaining c.advance.new.reader) _ came.0 _ _ c.loop-rows.invariant.stands came.1 _ _ c.judge_line.new.self c.in-Err-judge_line.refusal _
    (c.line_fault.ensures ∙ ap (refused c.in-Err-judge_line.refusal) (c.number.ensures ∙ counted)) c.line.ensures (inl (_, came.2)) c.in-Err-judge_line.ensures

pub loop-rows-preserved : goal.loop-rows-preserved
loop-rows-preserved g c =
    let came = rw c.in-Ok-Line.field-0-is at c.in-Ok-Line.ensures.bytes in
    record {
      stands = rw (rw c.in-Ok-Line.field-0-is at c.in-Ok-Line.ensures.number)
          (judged_more (judge c.args.part) _ _ _ _ _ (stands_on c.args.part _ _ (g.R.Source.remaining c.advance.new.reader) _ came.0 _ _ c.loop-rows.invariant.stands came.1) _ _ _ came.2
          (rw c.line.ensures at c.in_default-judge_line.ensures));
      counted = c.advance.ensures.counted _ c.loop-rows.invariant.counted;
      failures = (rw c.in-Ok-Line.field-0-is at c.in-Ok-Line.ensures.failures) ∙ c.loop-rows.invariant.failures;
    }

pub returns-in-Err-judge_line-2-clause-read : goal.returns-in-Err-judge_line-2-clause-read
returns-in-Err-judge_line-2-clause-read g c =
    let came = rw c.in-Ok-LastLine.field-0-is at c.in-Ok-LastLine.ensures.bytes in
    let counted = rw c.in-Ok-LastLine.field-0-is at c.in-Ok-LastLine.ensures.number in
    told_refused c.args.part _ _
    (g.R.Source.remaining c.advance.new.reader) _ came.0 _ _ c.loop-rows.invariant.stands came.1 _ _ c.judge_line-in-Ok-LastLine.new.self c.in-Err-judge_line-2.refusal _
    (c.line_fault-in-Err-judge_line-2.ensures ∙ ap (refused c.in-Err-judge_line-2.refusal) (c.number-in-Err-judge_line-2.ensures ∙ counted)) c.line-in-Ok-LastLine.ensures (inr came.2) c.in-Err-judge_line-2.ensures

pub returns-in-Ok-LastLine-clause-read : goal.returns-in-Ok-LastLine-clause-read
returns-in-Ok-LastLine-clause-read g c =
    let came = rw c.in-Ok-LastLine.field-0-is at c.in-Ok-LastLine.ensures.bytes in
    told_last_end c.args.part _ _
    (g.R.Source.remaining c.advance.new.reader) _ came.0 _ _ c.loop-rows.invariant.stands came.1 _ c.judge_line-in-Ok-LastLine.new.self c.in_default-judge_line-2.field-0 came.2.0 came.2.1 (rw c.line-in-Ok-LastLine.ensures at c.in_default-judge_line-2.ensures)

pub returns-in-Ok-End-clause-read : goal.returns-in-Ok-End-clause-read
returns-in-Ok-End-clause-read g c =
    let came = rw c.in-Ok-End.field-0-is at c.in-Ok-End.ensures.bytes in
    told_end c.args.part _ _ (g.R.Source.remaining c.advance.new.reader) _ came.0 _ _ c.loop-rows.invariant.stands came.1 came.2.0 came.2.1

pub returns-in-Err-clause-read : goal.returns-in-Err-clause-read
returns-in-Err-clause-read g c =
    let came = c.in-Err.ensures.bytes in
    told_fault c.args.part _ _ (g.R.Source.remaining c.advance.new.reader) _ came.0 _ _ c.loop-rows.invariant.stands came.1 c.in-Err.fault c.advance.new.self _
    (c.read_fault.ensures ∙ ap (λ (n : ℕ). told c.in-Err.fault (n + 1)) (c.number-in-Err.ensures ∙ c.in-Err.ensures.number)) came.2
