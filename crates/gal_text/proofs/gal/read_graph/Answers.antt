use Rattle.{std.proofs.Common.{◌++◌, Err, inl, inr, subst}, byte_stream.specs.Reading.Gives, gal_text.specs.Parts.Begins}
use Rattle.gal_text.proofs.FileLemmas.{told_words, told_refused, told_header_alone, told_none, told_fault}
use Rattle.gal_text.proofs.gal.read_graph.Goals as goal

pub returns-in-Ok-clause-read : goal.returns-in-Ok-clause-read
returns-in-Ok-clause-read g c =
    let came = rw c.in-Ok-Line.field-0-is at c.in-Ok-Line.ensures.bytes in
    told_words c.args.blocks.now (g.R.Source.remaining c.args.reader.now) (g.R.Source.remaining c.advance.new.reader)
    (g.R.Source.remaining c.read_words.new.reader) came.0 _ _ c.in-Ok.graph.left c.read_words.result
    came.1 (rw c.requires.held at came.2) (rw c.line.ensures at c.in-Ok.ensures).0 c.read_words.ensures.read

pub returns-in-Err-begin-clause-read : goal.returns-in-Err-begin-clause-read
returns-in-Err-begin-clause-read g c =
    let came = rw c.in-Ok-Line.field-0-is at c.in-Ok-Line.ensures.bytes in
    told_refused c.args.blocks.now (g.R.Source.remaining c.args.reader.now) (g.R.Source.remaining c.advance.new.reader) came.0 _ c.in-Err-begin.refusal _
    c.refused.ensures came.1 (inl (_, rw c.requires.held at came.2)) (subst (λ t. Begins c.args.blocks.now t (Err c.in-Err-begin.refusal)) c.line.ensures c.in-Err-begin.ensures)

pub returns-in-Ok-begin-clause-read : goal.returns-in-Ok-begin-clause-read
returns-in-Ok-begin-clause-read g c =
    let came = rw c.in-Ok-LastLine.field-0-is at c.in-Ok-LastLine.ensures.bytes in
    told_header_alone c.args.blocks.now (g.R.Source.remaining c.args.reader.now) (g.R.Source.remaining c.advance.new.reader) came.0 _ c.in-Ok-begin.graph
    came.1 came.2.0 (rw c.requires.held at came.2.1) (rw c.line-in-Ok-LastLine.ensures at c.in-Ok-begin.ensures)

pub returns-in-Err-begin-2-clause-read : goal.returns-in-Err-begin-2-clause-read
returns-in-Err-begin-2-clause-read g c =
    let came = rw c.in-Ok-LastLine.field-0-is at c.in-Ok-LastLine.ensures.bytes in
    told_refused c.args.blocks.now (g.R.Source.remaining c.args.reader.now) (g.R.Source.remaining c.advance.new.reader) came.0 _ c.in-Err-begin-2.refusal _
    c.refused-in-Err-begin-2.ensures came.1 (inr (came.2.0, rw c.requires.held at came.2.1))
    (subst (λ t. Begins c.args.blocks.now t (Err c.in-Err-begin-2.refusal)) c.line-in-Ok-LastLine.ensures c.in-Err-begin-2.ensures)

pub returns-in-Ok-End-clause-read : goal.returns-in-Ok-End-clause-read
returns-in-Ok-End-clause-read g c =
    let came = rw c.in-Ok-End.field-0-is at c.in-Ok-End.ensures.bytes in
    told_none c.args.blocks.now (g.R.Source.remaining c.args.reader.now) (g.R.Source.remaining c.advance.new.reader) came.0 came.1 came.2.0 (rw c.requires.held at came.2.1)

pub returns-in-Err-clause-read : goal.returns-in-Err-clause-read
returns-in-Err-clause-read g c =
    let came = c.in-Err.ensures.bytes in
    told_fault c.args.blocks.now (g.R.Source.remaining c.args.reader.now) (g.R.Source.remaining c.advance.new.reader) came.0 c.in-Err.fault c.advance.new.self _
    c.read_told.ensures came.1 (subst (λ h. Gives (h ++ came.0) (g.R.Source.remaining c.advance.new.reader) (Err c.in-Err.fault) c.advance.new.self) c.requires.held came.2)
