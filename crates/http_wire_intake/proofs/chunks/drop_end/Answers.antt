use Rattle.{std.proofs.Common.subst, http_wire_intake.{specs.claim.Chunks.IsOpenEnd, proofs.ChunkReadLemmas.part_failed}}
use Rattle.http_wire_intake.proofs.chunks.drop_end.Goals as goal

pub returns-in-Err-clause-read : goal.returns-in-Err-clause-read
returns-in-Err-clause-read g c =
    let read = c.read_prefix.ensures.read in
    (read.0, read.1, part_failed IsOpenEnd _ _ c.in-Err.fault (subst IsOpenEnd read.2) c.in-Err.ensures.sees)
