use Rattle.{std.proofs.Common.take, byte_stream.specs.claim.Words.AreSeparators}
use Rattle.byte_stream.proofs.words.separators_before.Given as goal

abbrev pub invariant-loop-i : goal.invariant-loop-i
invariant-loop-i l = AreSeparators (take l.i l.text)
