use Rattle.{std.proofs.lemmas.Result.IfOk-weaker, audit_splits_nesting.proofs.Marking.unseen_are}
use Rattle.audit_splits_nesting.proofs.mark.unseen.Goals as goal

pub returns : goal.returns
returns c = IfOk-weaker c.vec.result _ _ (λ v same. unseen_are c.args.count v.items (same (λ y e. e))) c.vec.ensures.items_if_clones_equal
