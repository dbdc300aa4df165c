use Rattle.{std.proofs.Common.take, byte_stream.specs.claim.Words.NoSeparator}
use Rattle.byte_stream.proofs.words.bytes_before.Given as goal

abbrev pub invariant-loop-i : goal.invariant-loop-i
invariant-loop-i l = NoSeparator (take l.i l.text)
