use Rattle.std.proofs.{Common.{◌≡◌, get_or, arith, below_more}, lemmas.List.ext_get_or}
use Rattle.store_verification.proofs.beside.are_same.Goals as goal

pub loop-k-preserved : goal.loop-k-preserved
loop-k-preserved c = below_more (λ i. get_or c.args.some.now i (record { first = 0; count = 0 }) ≡ get_or c.args.others.now i (record { first = 0; count = 0 })) c.loop-k.k c.loop-k.invariant
    (c.is_same.ensures c.if-not-is_same.false)

pub returns : goal.returns
returns c = λ _. ext_get_or (record { first = 0; count = 0 }) c.args.some.now c.args.others.now c.if-some-others.false (λ j lt. c.loop-k.invariant j (omega arith))
