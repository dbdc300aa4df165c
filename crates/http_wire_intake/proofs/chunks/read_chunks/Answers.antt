use Rattle.{std.proofs.{Common.{rules, Ok, Err}, lemmas.List.places}, http_wire_intake.proofs.{ChunkReadLemmas.{stands_more, stands_ended, step_within}, DrawsLemmas.draws_more}}
use Rattle.http_wire_intake.proofs.chunks.read_chunks.Goals as goal

pub loop-chunked-preserved : goal.loop-chunked-preserved
loop-chunked-preserved g c =
    search (rules, c.loop-chunked.invariant, c.in-Ok-None.field-0-is, c.in-Ok-None.ensures.read, c.in-Ok-None.ensures.takes, c.in-Ok-None.ensures.draws, places, stands_more, step_within, draws_more)

pub returns-in-Ok-Some-clause-read : goal.returns-in-Ok-Some-clause-read
returns-in-Ok-Some-clause-read g c =
    stands_ended _ (g.R.Source.remaining c.loop-chunked.intake.reader.now) _ c.args.intake.now.read_buffer.now c.loop-chunked.intake.read_buffer.now c.loop-chunked.body.items c.read_chunk.new.body.items c.read_chunk.new.intake.read_buffer.now (Ok c.in-Ok-Some.chunked) c.loop-chunked.invariant.stands
    (rw c.in-Ok-Some.field-0-is at c.in-Ok-Some.ensures.read)

pub returns-in-Err-clause-read : goal.returns-in-Err-clause-read
returns-in-Err-clause-read g c =
    stands_ended _ (g.R.Source.remaining c.loop-chunked.intake.reader.now) _ c.args.intake.now.read_buffer.now c.loop-chunked.intake.read_buffer.now c.loop-chunked.body.items c.read_chunk.new.body.items c.read_chunk.new.intake.read_buffer.now (Err c.in-Err.fault) c.loop-chunked.invariant.stands c.in-Err.ensures.read
