use Rattle.{std.proofs.{Common.{◌≡◌, ◌+◌, ◌-◌, ℕ, take, min, sym, subst, ◌∙◌, arith}, lemmas.List.take_rest}, key_order.proofs.Comparing.{key_cmp, fewer, past, by_lengths}}
use Rattle.key_order.proofs.keys.compare_last.Goals as goal

pub returns-then-both-le16 : goal.returns-then-both-le16
returns-then-both-le16 c =
    let all : min c.args.both 16 ≡ c.args.both = omega arith in
    c.cmp.ensures ∙ by_lengths c.args.a.now c.args.b.now c.args.both c.requires.both (subst (λ (n : ℕ). take n c.args.a.now ≡ take n c.args.b.now) all c.requires.alike)

pub returns-then-both-gt24 : goal.returns-then-both-gt24
returns-then-both-gt24 c =
    let prefix : min c.args.both 16 ≡ 16 = omega arith in
    c.cmp-then-both-gt24.ensures ∙ (λ i. key_cmp (take_rest c.args.a.now 16 i) (take_rest c.args.b.now 16 i)) ∙ sym (past 16 c.args.a.now c.args.b.now (omega arith) (omega arith) (subst (λ (n : ℕ). take n c.args.a.now ≡ take n c.args.b.now) prefix c.requires.alike))

pub compare_at-requires-clause-alike : goal.compare_at-requires-clause-alike
compare_at-requires-clause-alike c = fewer (c.args.both - 8) (min c.args.both 16) c.args.a.now c.args.b.now (omega arith) c.requires.alike

pub returns-in-None : goal.returns-in-None
returns-in-None c =
    let all : c.args.both - 8 + 8 ≡ c.args.both = omega arith in
    c.cmp-in-None.ensures ∙ by_lengths c.args.a.now c.args.b.now c.args.both c.requires.both (subst (λ (n : ℕ). take n c.args.a.now ≡ take n c.args.b.now) all c.in-None.ensures.alike)
