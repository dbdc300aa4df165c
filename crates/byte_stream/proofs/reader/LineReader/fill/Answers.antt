use Rattle.{std.proofs.Common.{length-drop, rules}, byte_stream.proofs.{BufferLemmas.{filled, filled_more, none_came}, ReadingLemmas.Consumes-keeps}}
use Rattle.byte_stream.proofs.reader.LineReader.fill.Goals as goal

pub returns-in-Read-clause-bytes : goal.returns-in-Read-clause-bytes
returns-in-Read-clause-bytes g c =
    search (rules, c.in-Read.ensures.bytes, c.make_room-start.ensures.room, c.as_mut_slice.ensures.len, c.in-Read.ensures.prefix, c.as_mut_slice.ensures.value, c.make_room-start.ensures.same, c.make_room-start.ensures.order, length-drop, filled_more, none_came)

pub returns-in-Interrupted-clause-bytes : goal.returns-in-Interrupted-clause-bytes
returns-in-Interrupted-clause-bytes g c =
    search (rules, c.as_mut_slice.ensures.len, c.in-Interrupted.ensures.bytes, c.in-Interrupted.ensures.prefix, c.as_mut_slice.ensures.value, c.make_room-start.ensures.same, Consumes-keeps, filled)

pub returns-in-Failed-clause-bytes : goal.returns-in-Failed-clause-bytes
returns-in-Failed-clause-bytes g c =
    search (rules, c.as_mut_slice.ensures.len, c.in-Failed.ensures.bytes, c.in-Failed.ensures.prefix, c.as_mut_slice.ensures.value, c.make_room-start.ensures.same, Consumes-keeps, filled)
