use Rattle.{std.proofs.{Common.{List, [], ℕ, ◌++◌, ◌∙◌, ap, sym, subst, rules}, KnownBytes.Consumes-nil}, http_wire.specs.{Framed.BodyRead, Incoming.{ReadsPrefix, IsTargetOf}}}
use Rattle.{http_wire.{specs.claim.Interim.continue_text, proofs.FinishLemmas.{finish_draws, finish_ends, finish_writes}}, httparse.specs.Spans.span_bytes}
use Rattle.{http_wire.proofs.{InterimLemmas.{found_asks, found_cut}, RequestLemmas.{rest_reads, out_of_memory, due}}, http_wire_intake.proofs.DrawsLemmas.{same_none, spends_none}}
use Rattle.http_wire.proofs.request.read_rest.Goals as goal

pub returns : goal.returns
returns g c = record {
  read = let read = c.read_framed-came.ensures.read in
      let head = c.args.head in
      let input = c.args.intake.now.read_buffer.now in
      let rest = c.read_framed-came.new.intake.read_buffer.now in
      let sent = continue_text head.expects in (
        sent,
        c.in-Ok.ensures.bytes,
        (
          read.0,
          rw (← c.consume.ensures.reader) read.1,
          subst (λ x. ReadsPrefix (input ++ read.0) x rest sent) (sym c.finish.ensures)
              (rest_reads c.chunk_law.ensures input read.0 head (record c.in-Ok-begin.begun.request { body = c.read_framed-came.new.body }) c.in-Ok-begin.begun.is_good c.read_framed-came.result rest sent c.requires
              (c.in-Ok-begin.ensures.method ∙ ap (λ (xs : List ℕ). span_bytes xs head.method) c.held.ensures)
              (subst (λ (xs : List ℕ). IsTargetOf (span_bytes xs head.target) c.in-Ok-begin.begun.is_good c.in-Ok-begin.begun.request.target.items) c.held.ensures c.in-Ok-begin.ensures.target)
              c.in-Ok-begin.ensures.closes
              (subst (λ (xs : List ℕ). BodyRead head.framing (xs ++ read.0) c.read_framed-came.result c.read_framed-came.new.body.items rest) c.consume.ensures.read_buffer read.2)
              (found_asks input head c.requires)),
        ),
      );
  end = search (rules, c.finish.ensures, c.read_framed-came.ensures.end, finish_ends);
  write_failures = search (rules, c.in-Ok.ensures.failures, c.finish.ensures, finish_writes);
  draws =
      search (rules, c.finish.ensures, c.requires.some, c.requires.within, c.consume.ensures.same, c.consume.ensures.reader, c.consume.ensures.turns, c.consume.ensures.read_buffer, c.read_framed-came.ensures.draws, finish_draws);
}

pub returns-in_default : goal.returns-in_default
returns-in_default g c = record {
  read = let input = c.args.intake.now.read_buffer.now in
      let asks = found_asks input c.args.head c.requires in
      (continue_text c.args.head.expects, c.in-Ok.ensures.bytes, ([], Consumes-nil (g.R.Source.remaining c.args.intake.now.reader.now), (out_of_memory input [] c.args.head c.requires, due input [] _ c.args.head c.requires asks)));
  end = search rules;
  write_failures = c.in-Ok.ensures.failures;
  draws = search (rules, same_none, spends_none);
}

pub returns-in-Err : goal.returns-in-Err
returns-in-Err g c = record {
  read = let sent = c.in-Err.ensures.bytes in
      (sent.0, sent.3, ([], Consumes-nil (g.R.Source.remaining c.args.intake.now.reader.now), found_cut c.chunk_law.ensures c.args.intake.now.read_buffer.now [] c.args.head sent.0 sent.1 c.requires c.in-Err.ensures.asked sent.2));
  end = search rules;
  write_failures = c.in-Err.ensures.failures;
  draws = search (rules, same_none, spends_none);
}
