use Rattle.{std.proofs.{Common.{◌++◌, ap, ◌∙◌}, lemmas.List.take_all}, desk_store_lists.{specs.Pieces.joined, proofs.Cut.joined_take}}
use Rattle.desk_store_lists.proofs.districts.Districts.to_vec.Goals as goal

pub loop-piece-preserved : goal.loop-piece-preserved
loop-piece-preserved c =
    c.in_ok-append_to.ensures ∙ (λ i. c.loop-piece.invariant i ++ c.piece-item.is i) ∙ joined_take c.deref-piece-items.result.now c.loop-piece.piece-index c.piece-item.result c.loop-piece-test.true

pub returns : goal.returns
returns c =
    let prefix = c.loop-piece.invariant ∙ ap joined (take_all c.loop-piece.piece-index c.deref-piece-items.result.now c.loop-piece-test.false ∙ c.deref-piece-items.ensures.value) in
    c.in_ok-append_to-2.ensures ∙ (λ i. prefix i ++ c.self.inside.rest) ∙ c.self.view_is
