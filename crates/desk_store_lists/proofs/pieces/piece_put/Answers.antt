use Rattle.std.proofs.{Common.{ℕ, length, take, drop, ◌++◌, ap, sym, subst, ◌∙◌, ◌+◌, ◌-◌, arith}, lemmas.Result.IfOk-weaker}
use Rattle.desk_store_lists.proofs.Puts.{IsCutOut, is_cut_out, laid_apart, all_cut_out, laid_between}
use Rattle.desk_store_lists.proofs.pieces.piece_put.Goals as goal
use Rattle.desk_store_lists.proofs.pieces.piece_put.Goals.{After-min-to}

cut : (c : After-min-to) → IsCutOut c.args.first c.args.part.now c.args.start (length c.args.kept.now) c.max-from.result c.min-to.result
cut c = subst (λ (n : ℕ). IsCutOut c.args.first c.args.part.now c.args.start n c.max-from.result c.min-to.result) c.requires.counted
    (is_cut_out c.args.first c.args.part.now c.args.start c.args.count c.max-from.result c.min-to.result c.max-from.ensures c.min-to.ensures (c.is_apart.ensures.beside c.if-is_apart.false))

pub is_apart-requires : goal.is_apart-requires
is_apart-requires c = omega (arith, c.requires.here, c.requires.counted)

pub returns-then-is_apart : goal.returns-then-is_apart
returns-then-is_apart c = IfOk-weaker c.share.result _ _
    (λ piece is. is ∙ laid_apart c.args.first c.args.part.now c.args.start c.args.kept.now c.args.count c.requires.counted (c.is_apart.ensures.apart c.if-is_apart.true)) c.share.ensures

pub overflow_sub-to : goal.overflow_sub-to
overflow_sub-to c = (cut c).to_there

pub between-new-requires-clause-order : goal.between-new-requires-clause-order
between-new-requires-clause-order c = (cut c).order_there

pub returns-then-new-count : goal.returns-then-new-count
returns-then-new-count c =
    let at = goal.at.returns-then-new-count c in
    IfOk-weaker c.piece_of.result _ _
    (λ piece is. is ∙ c.between-new.ensures
    ∙ all_cut_out c.args.first c.args.part.now c.args.start c.args.kept.now c.max-from.result c.min-to.result (cut at.After-min-to)
    (sym (ap length c.between-new.ensures) ∙ c.if-new-count.true ∙ c.requires.counted)) c.piece_of.ensures

pub returns : goal.returns
returns c =
    let at = goal.at.returns c in
    IfOk-weaker c.piece_of-2.result _ _
    (λ piece is. is ∙ c.as_slice.ensures.value ∙ c.replaced-changed.ensures
    ∙ (λ i. take (c.max-from.result - c.args.start) (c.in_ok-districts.ensures i) ++ (c.between-new.ensures i ++ drop (c.min-to.result - c.args.start) (c.in_ok-districts.ensures i)))
    ∙ laid_between c.args.first c.args.part.now c.args.start c.args.kept.now c.max-from.result c.min-to.result (cut at.After-min-to)) c.piece_of-2.ensures
