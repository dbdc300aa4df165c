use Rattle.std.proofs.Common.{◌≡◌, IsTrue, take}
use Rattle.baf_text.proofs.near.is_same.Given as goal

abbrev pub invariant-loop-k : goal.invariant-loop-k
invariant-loop-k l = IsTrue l.same → take l.k l.one ≡ take l.k l.other
