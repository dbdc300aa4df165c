use Rattle.std.proofs.{Common.{◌≡◌, ◌+◌, [], List, ℕ, ◌++◌, length, vec_len, subst, sym, rules, arith}, KnownBytes.Consumes-nil, lemmas.List.places}
use Rattle.http_wire_intake.{specs.ChunkParts.{TrailersCame, StepCame}, proofs.ChunkReadLemmas.{line_too_large, last_reads, data_reads}}
use Rattle.http_wire_intake.proofs.chunks.read_chunk_rest.Goals as goal

pub returns-then-line-n-clause-read : goal.returns-then-line-n-clause-read
returns-then-line-n-clause-read g c =
    let old = c.args.body.now.items in
    let len_is : length old ≡ vec_len c.args.body.now = search (rules, places) in
    ([], Consumes-nil _, line_too_large (length old) c.args.intake.now.read_buffer.now [] c.args.line c.requires.line (omega (arith, len_is, c.len-n.ensures, c.if-line-n.true, c.requires.within)))

pub returns-then-line-eq0-clause-read : goal.returns-then-line-eq0-clause-read
returns-then-line-eq0-clause-read g c =
    let read = c.drop_trailers.ensures.read in
    let old = c.args.body.now.items in
    let rest = c.drop_trailers.new.intake.read_buffer.now in (
      read.0,
      rw (← c.consume.ensures.reader) read.1,
      subst (λ x. StepCame old (c.args.intake.now.read_buffer.now ++ read.0) x old rest) (sym c.after_trailers.ensures)
          (last_reads old c.args.intake.now.read_buffer.now read.0 c.args.line c.drop_trailers.result rest c.requires.line (omega (arith, c.if-line-eq0.true))
          (subst (λ (xs : List ℕ). TrailersCame (xs ++ read.0) c.drop_trailers.result rest) c.consume.ensures.read_buffer read.2)),
    )

pub returns-clause-read : goal.returns-clause-read
returns-clause-read g c =
    search (rules, c.read_data.ensures.read, c.consume.ensures.reader, c.after_data.ensures, c.requires.line, c.len-n.ensures, c.requires.within, c.consume.ensures.read_buffer, places, data_reads)
