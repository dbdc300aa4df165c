use Rattle.{std.proofs.Common.{inr, refl, subst, arith, rules}, httparse.specs.Grammar.HasNoChunkLine, http_wire_intake.proofs.ChunkLookLemmas.{line_window_is, line_at}}
use Rattle.http_wire_intake.proofs.chunk_line.look_at_line.Goals as goal

pub returns-in-Ok-Complete-clause-sees : goal.returns-in-Ok-Complete-clause-sees
returns-in-Ok-Complete-clause-sees c = search (rules, c.in-Ok-Complete.field-0-is, c.in-Ok-Complete.ensures.complete, c.min.ensures, line_at)

pub returns-then-bytes-ge-CHUNK_LINE_LIMIT-clause-sees : goal.returns-then-bytes-ge-CHUNK_LINE_LIMIT-clause-sees
returns-then-bytes-ge-CHUNK_LINE_LIMIT-clause-sees c =
    (refl, inr (omega (arith, c.if-bytes-ge-CHUNK_LINE_LIMIT.true), subst HasNoChunkLine (line_window_is c.args.bytes.now c.min.result c.min.ensures) (rw c.in-Ok-Partial.field-0-is at c.in-Ok-Partial.ensures.partial)))
