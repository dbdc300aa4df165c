use Rattle.{std.proofs.Common.subst, http_wire_intake.{specs.claim.Chunks.AreOpenTrailers, proofs.ChunkReadLemmas.part_failed}}
use Rattle.http_wire_intake.proofs.chunks.drop_trailers.Goals as goal

pub returns-in-Err-clause-read : goal.returns-in-Err-clause-read
returns-in-Err-clause-read g c =
    let read = c.read_prefix.ensures.read in
    (read.0, read.1, part_failed AreOpenTrailers _ _ c.in-Err.fault (subst AreOpenTrailers read.2) c.in-Err.ensures.sees)
