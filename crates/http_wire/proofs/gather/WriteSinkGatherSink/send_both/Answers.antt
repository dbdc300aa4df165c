use Rattle.std.proofs.Common.{ℕ, List, ◌++◌, ◌∙◌, ap, append_assoc}
use Rattle.http_wire.proofs.gather.WriteSinkGatherSink.send_both.Goals as goal

pub returns-in-Err-clause-bytes : goal.returns-in-Err-clause-bytes
returns-in-Err-clause-bytes g c =
    let s = c.in-Err.ensures.bytes in
    let second = c.args.second.now in
    (s.0, s.1 ++ second, ap (λ (xs : List ℕ). xs ++ second) s.2 ∙ append_assoc s.0 s.1 second, s.3)
