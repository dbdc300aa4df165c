use Rattle.{std.proofs.Common.{sym, ◌∙◌}, key_order.proofs.Comparing.settles}
use Rattle.key_order.proofs.keys.compare_at.Goals as goal

pub returns-then-x-y-clause-alike : goal.returns-then-x-y-clause-alike
returns-then-x-y-clause-alike c =
    (settles c.args.a.now c.args.b.now c.args.at _ _ c.type_inv.a c.type_inv.b c.requires.a c.requires.b c.requires.alike c.word_at-x.ensures c.word_at-y.ensures).alike c.if-x-y.true

pub returns-clause-apart : goal.returns-clause-apart
returns-clause-apart c =
    c.cmp.ensures
    ∙ sym ((settles c.args.a.now c.args.b.now c.args.at _ _ c.type_inv.a c.type_inv.b c.requires.a c.requires.b c.requires.alike c.word_at-x.ensures c.word_at-y.ensures).apart c.if-x-y.false)
