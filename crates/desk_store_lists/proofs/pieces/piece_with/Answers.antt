use Rattle.{std.proofs.{Common.◌∙◌, lemmas.Result.IfOk-weaker}, desk_store_lists.proofs.Laying.unlaid_apart}
use Rattle.desk_store_lists.proofs.pieces.piece_with.Goals as goal

pub returns-then-is_apart : goal.returns-then-is_apart
returns-then-is_apart c = IfOk-weaker c.share.result _ _
    (λ piece is. is ∙ unlaid_apart c.args.first c.args.listed.now c.args.start c.args.kept.now c.args.count c.requires.counted (c.is_apart.ensures.apart c.if-is_apart.true)) c.share.ensures
