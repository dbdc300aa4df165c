use Rattle.{std.proofs.{Common.{◌++◌, ap, subst, sym, ◌∙◌, arith}, lemmas.Result.IfOk-weaker}, desk_store_lists.specs.Pieces.{joined, AreFull}}
use Rattle.desk_store_lists.proofs.Cut.{prefix_in_full, prefix_in_rest, some_in_rest, rest_long}
use Rattle.desk_store_lists.proofs.districts.Districts.piece_from.Goals as goal

pub returns-then-at-full-clause-prefix : goal.returns-then-at-full-clause-prefix
returns-then-at-full-clause-prefix c = IfOk-weaker c.tail.result _ _
    (λ here is. prefix_in_full c.as_slice-full.result.now c.self.inside.rest c.args.self.now c.args.place here.items (subst AreFull (sym c.as_slice-full.ensures.value) c.self.invariant.are_full)
    (ap (λ ps. joined ps ++ c.self.inside.rest) c.as_slice-full.ensures.value ∙ c.self.view_is) c.index-full-at.result c.if-at-full.true c.index-full-at.is is) c.tail.ensures

pub tail-requires-2 : goal.tail-requires-2
tail-requires-2 c =
    let within = rest_long c.as_slice-full.result.now c.self.inside.rest c.args.self.now c.args.place c.args.self.now (subst AreFull (sym c.as_slice-full.ensures.value) c.self.invariant.are_full)
    (ap (λ ps. joined ps ++ c.self.inside.rest) c.as_slice-full.ensures.value ∙ c.self.view_is) c.requires in
    omega arith

pub returns-clause-prefix : goal.returns-clause-prefix
returns-clause-prefix c = IfOk-weaker c.tail-2.result _ _
    (λ here is. prefix_in_rest c.as_slice-full.result.now c.self.inside.rest c.args.self.now c.args.place here.items (subst AreFull (sym c.as_slice-full.ensures.value) c.self.invariant.are_full)
    (ap (λ ps. joined ps ++ c.self.inside.rest) c.as_slice-full.ensures.value ∙ c.self.view_is) c.if-at-full.false is) c.tail-2.ensures

pub returns-clause-some : goal.returns-clause-some
returns-clause-some c = IfOk-weaker c.tail-2.result _ _
    (λ here is. some_in_rest c.as_slice-full.result.now c.self.inside.rest c.args.self.now c.args.place here.items (subst AreFull (sym c.as_slice-full.ensures.value) c.self.invariant.are_full)
    (ap (λ ps. joined ps ++ c.self.inside.rest) c.as_slice-full.ensures.value ∙ c.self.view_is) c.if-at-full.false c.requires is) c.tail-2.ensures
