use Rattle.{std.proofs.Common.{Bool, subst}, store_verification_rows.specs.Strays.IsNamedAs, desk_store_pages.proofs.Looking.{fails, finds}}
use Rattle.store_verification_rows.proofs.strays.judge_named.Goals as goal

pub returns-in_err-is_named : goal.returns-in_err-is_named
returns-in_err-is_named g c = fails c.from_residual.result c.in_err-is_named.ensures c.from_residual.ensures.1 (λ m any. any)

pub returns-then-branch : goal.returns-then-branch
returns-then-branch g c = finds c.in_ok-is_named.ensures (λ m found was. ((found was).0, subst (λ (b : Bool). IsNamedAs c.args.ranges.now c.args.of c.args.number c.args.piece m b) c.if-branch.true (found was).1))

pub returns : goal.returns
returns g c = finds c.in_ok-is_named.ensures (λ m found was. ((found was).0, subst (λ (b : Bool). IsNamedAs c.args.ranges.now c.args.of c.args.number c.args.piece m b) c.if-branch.false (found was).1))
