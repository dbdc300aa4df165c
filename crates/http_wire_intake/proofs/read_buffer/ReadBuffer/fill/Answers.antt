use Rattle.std.proofs.{Common.{rules, length-drop}, lemmas.List.{with_items_is, places}}
use Rattle.http_wire_intake.proofs.ReadBufferLemmas.{part_filled, part_kept, part_room, Consumes-kept_nil, read_fills, interrupted_fills}
use Rattle.http_wire_intake.proofs.read_buffer.ReadBuffer.fill.Goals as goal

pub returns-in-Read-clause-bytes : goal.returns-in-Read-clause-bytes
returns-in-Read-clause-bytes g c =
    search (rules, c.self.invariant.0, c.self.invariant.1, c.self.invariant.2, c.requires, c.in-Read.ensures.bytes, c.turn_at.ensures.prefix, c.as_mut_slice.ensures.value, part_room, with_items_is, places, read_fills, length-drop, part_filled)

pub returns-in-Interrupted-clause-bytes : goal.returns-in-Interrupted-clause-bytes
returns-in-Interrupted-clause-bytes g c =
    search (rules, c.in-Interrupted.ensures.bytes, c.turn_at.ensures.prefix, c.as_mut_slice.ensures.value, interrupted_fills, with_items_is, places, part_kept)

pub returns-in-Failed-clause-bytes : goal.returns-in-Failed-clause-bytes
returns-in-Failed-clause-bytes g c =
    search (rules, c.in-Failed.ensures.bytes, c.turn_at.ensures.prefix, c.as_mut_slice.ensures.value, Consumes-kept_nil, with_items_is, places, part_kept)
