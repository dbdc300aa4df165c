use Rattle.{std.proofs.Common.rules, byte_stream.proofs.BufferLemmas.found_line}
use Rattle.byte_stream.proofs.reader.LineReader.take_line.Goals as goal

pub returns-clause-line : goal.returns-clause-line
returns-clause-line c = search (rules, c.deref.ensures.value, c.in-Some.ensures.0, c.in-Some.ensures.1, c.without_return-line_len.ensures, found_line)
