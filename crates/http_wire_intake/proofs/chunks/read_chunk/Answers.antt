use Rattle.{std.proofs.Common.{length, subst, sym}, http_wire_intake.specs.{ChunkParts.StepCame, claim.Chunks.{HasChunkFault, IsOpenLine, LacksChunks}}}
use Rattle.http_wire_intake.proofs.{ChunkReadLemmas.part_failed, DrawsLemmas.goes_on}
use Rattle.http_wire_intake.proofs.chunks.read_chunk.Goals as goal

pub returns-in-Ok-Found-clause-read : goal.returns-in-Ok-Found-clause-read
returns-in-Ok-Found-clause-read g c =
    goes_on (λ xs. StepCame c.args.body.now.items xs c.read_chunk_rest.result c.read_chunk_rest.new.body.items c.read_chunk_rest.new.intake.read_buffer.now) _ (g.R.Source.remaining c.read_prefix.new.intake.reader.now) _ c.args.intake.now.read_buffer.now c.read_prefix.new.intake.read_buffer.now
    c.read_prefix.ensures.read c.read_chunk_rest.ensures.read

pub returns-in-Ok-Refused-clause-read : goal.returns-in-Ok-Refused-clause-read
returns-in-Ok-Refused-clause-read g c =
    let read = c.read_prefix.ensures.read in
    let sees = rw c.in-Ok-Refused.field-0-is at c.in-Ok-Refused.ensures.sees in
    (read.0, read.1, subst (HasChunkFault (length c.args.body.now.items) _) (sym sees.0) (HasChunkFault.bad_line _ _ (rw read.2 at sees.1)))

pub returns-in-Ok-Incomplete-clause-read : goal.returns-in-Ok-Incomplete-clause-read
returns-in-Ok-Incomplete-clause-read g c =
    let read = c.read_prefix.ensures.read in
    let sees = rw c.in-Ok-Incomplete.field-0-is at c.in-Ok-Incomplete.ensures.sees in
    (read.0, read.1, LacksChunks.no_line _ _ (rw read.2 at sees))

pub returns-in-Err-clause-read : goal.returns-in-Err-clause-read
returns-in-Err-clause-read g c =
    let read = c.read_prefix.ensures.read in
    (read.0, read.1, part_failed IsOpenLine _ _ c.in-Err.fault (λ is. LacksChunks.no_line _ _ (subst IsOpenLine read.2 is)) c.in-Err.ensures.sees)
