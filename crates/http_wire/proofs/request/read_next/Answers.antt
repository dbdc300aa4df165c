use Rattle.{std.proofs.{Common.{[], ◌++◌, Ok, subst, sym, rules}, KnownBytes.Appends-nil}, http_wire.specs.Incoming.ReadsPrefix, http_wire_intake.proofs.DrawsLemmas.goes_on}
use Rattle.http_wire.proofs.InterimLemmas.{open_prefix, open_short, refused_prefix}
use Rattle.http_wire.proofs.request.read_next.Goals as goal

pub returns-in-Ok-Found : goal.returns-in-Ok-Found
returns-in-Ok-Found g c = record {
  read = let rest = c.read_rest.ensures.read in
      let start = c.args.intake.now.read_buffer.now in (
        rest.0,
        rest.1,
        goes_on (λ xs. ReadsPrefix xs c.read_rest.result c.read_rest.new.intake.read_buffer.now rest.0) _ (g.R.Source.remaining c.read_prefix.new.intake.reader.now) _ start c.read_prefix.new.intake.read_buffer.now c.read_prefix.ensures.read rest.2,
      );
  end = search rules;
  write_failures = search rules;
  draws = search rules;
}

pub returns-in-Ok-Refused : goal.returns-in-Ok-Refused
returns-in-Ok-Refused g c = record {
  read = let read = c.in-Ok-Refused.ensures.read in
      let sees = rw c.in-Ok-Refused.field-0-is at c.in-Ok-Refused.ensures.sees in
      ([], Appends-nil (g.W.Sink.contents c.args.writer.now), (read.0, read.1, subst (λ x. ReadsPrefix (c.args.intake.now.read_buffer.now ++ read.0) (Ok x) c.read_prefix.new.intake.read_buffer.now []) (sym c.refused.ensures) (refused_prefix _ _ c.in-Ok-Refused.refusal.fault c.in-Ok-Refused.refusal.head_only read.2 sees)));
  end = search rules;
  write_failures = search rules;
  draws = search rules;
}

pub returns-in-Ok-Incomplete : goal.returns-in-Ok-Incomplete
returns-in-Ok-Incomplete g c =
    let read = c.in-Ok-Incomplete.ensures.read in
    let seen = open_prefix _ _ read.2 (rw c.in-Ok-Incomplete.field-0-is at c.in-Ok-Incomplete.ensures.sees) in
    record { read = ([], Appends-nil _, (read.0, read.1, seen)); end = search rules; write_failures = search rules; draws = search rules }

pub returns-in-Err-Read : goal.returns-in-Err-Read
returns-in-Err-Read g c = record {
  read = let read = c.in-Err-Read.ensures.read in ([], Appends-nil _, (read.0, read.1, open_short _ _ read.2 c.in-Err-Read.ensures.sees));
  end = search rules;
  write_failures = search rules;
  draws = search rules;
}

pub returns-in-Err-TurnLimit : goal.returns-in-Err-TurnLimit
returns-in-Err-TurnLimit g c = record {
  read = let read = c.in-Err-TurnLimit.ensures.read in ([], Appends-nil _, (read.0, read.1, open_short _ _ read.2 c.in-Err-TurnLimit.ensures.sees));
  end = search rules;
  write_failures = search rules;
  draws = search rules;
}
