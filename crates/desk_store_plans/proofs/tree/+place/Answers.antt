use Rattle.{std.proofs.Common.{◌++◌, ◌∷◌, refl, ap, subst, sym, ◌∙◌}, desk_store_plans.specs.{Rows.Row, Tree.{rows_of, IsPlaced}}}
use Rattle.desk_store_plans.proofs.Splits.{made_left, made_right, made_here, rows_are}
use Rattle.desk_store_plans.proofs.tree.+place.Goals as goal

pub returns-then-branch-clause-put : goal.returns-then-branch-clause-put
returns-then-branch-clause-put t c =
    made_left (rows_of c.own.inside.right) c.own.inside.entry.value (rows_are (c.own.view_is ∙ c.in-Some.ensures.value)) refl (sym c.order_of.ensures ∙ c.in-Less.is)
    (rw c.in-Some-left.is (subst (IsPlaced c.args.entry.now.value c.in-Some-left.left.value.1 c.place.new.tree.value.1) c.if-branch.true c.in_ok-place-in-Less.ensures.put))

pub returns-then-branch-2-clause-put : goal.returns-then-branch-2-clause-put
returns-then-branch-2-clause-put t c =
    made_right (rows_of c.own.inside.left) c.own.inside.entry.value (rows_are (c.own.view_is ∙ c.in-Some.ensures.value)) refl (sym c.order_of.ensures ∙ c.in-Greater.is)
    (rw c.in-Some-right.is (subst (IsPlaced c.args.entry.now.value c.in-Some-right.right.value.1 c.place-in-Some-right.new.tree.value.1) c.if-branch-2.true c.in_ok-place-in-Greater.ensures.put))

pub returns-in_ok-own-inside-in-Equal-clause-put : goal.returns-in_ok-own-inside-in-Equal-clause-put
returns-in_ok-own-inside-in-Equal-clause-put t c =
    made_here (rows_of c.own.inside.left) (rows_of c.own.inside.right) c.own.inside.entry.value (rows_are (c.own.view_is ∙ c.in-Some.ensures.value))
    (ap (λ (e : Row). rows_of c.own.inside.left ++ e ∷ rows_of c.own.inside.right) c.in_ok-own-inside-in-Equal.ensures) (sym c.order_of.ensures ∙ c.in-Equal.is)
