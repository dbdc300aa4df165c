use Rattle.std.proofs.lemmas.Result.{IfOk-weaker}
use Rattle.inspect_command.proofs.needs.every.Goals as goal

pub returns : goal.returns
returns c = IfOk-weaker c.vec.result _ _ (λ v same. same (λ y e. e)) c.vec.ensures.items_if_clones_equal
