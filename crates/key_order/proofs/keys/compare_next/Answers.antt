use Rattle.{std.proofs.Common.{◌≡◌, ◌+◌, ℕ, take, min, subst, arith}, key_order.proofs.Comparing.fewer}
use Rattle.key_order.proofs.keys.compare_next.Goals as goal

pub compare_at-requires-clause-alike : goal.compare_at-requires-clause-alike
compare_at-requires-clause-alike c = fewer c.min-next.result 8 c.args.a.now c.args.b.now (omega arith) c.requires.alike

pub compare_last-requires-clause-alike : goal.compare_last-requires-clause-alike
compare_last-requires-clause-alike c =
    let end : c.min-next.result + 8 ≡ min c.args.both 16 = omega arith in
    subst (λ (n : ℕ). take n c.args.a.now ≡ take n c.args.b.now) end c.in-None.ensures.alike
