use Rattle.std.proofs.Common.{◌≡◌, false, take, eqb, All}
use Rattle.http_desk_streams.proofs.rows.has_end.Given as goal

abbrev pub invariant-loop-b : goal.invariant-loop-b
invariant-loop-b l = l.ends ≡ false → All (λ b. eqb b 10 ≡ false) (take l.b-index l.bytes)
