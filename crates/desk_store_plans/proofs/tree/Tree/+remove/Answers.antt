use Rattle.{std.proofs.{Common.{sym, ◌∙◌, refl}, lemmas.Result.IfOk-weaker}, desk_store_plans.specs.{Rows.IsRemoved, Tree.rows_of}}
use Rattle.desk_store_plans.proofs.Splits.{made_left, made_right, made_here, made_alone, rows_are}
use Rattle.desk_store_plans.proofs.tree.Tree.+remove.Goals as goal
use Rattle.desk_store_plans.proofs.tree.Tree.+remove.Goals.{in-Some+in_ok-left-in-Some, in-None, in-Some-right+in_ok-right-in-Some-right, in-None-right}

pub returns-in_ok-balanced-in-Less-clause-removed : goal.returns-in_ok-balanced-in-Less-clause-removed
returns-in_ok-balanced-in-Less-clause-removed t c =
    let removed : IsRemoved c.args.name.now (rows_of c.self.inside.left) (rows_of c.match-self.left) = elim c.match-self.branch [
      | in-Some+in_ok-left-in-Some w ↦ rw (w.left-is, w.in-Some.is, ← w.deref.ensures) w.in_ok-left-in-Some.ensures.removed
      | in-None w ↦ rw (w.left-is, w.in-None.is) (made_alone refl)
    ] in
    made_left (rows_of c.self.inside.right) c.self.inside.entry.value (rows_are c.self.view_is) (rw (c.in_ok-same-in-Less.ensures, c.in_ok-share-in-Less.ensures.rows) at c.in_ok-balanced-in-Less.ensures.rows)
    (sym c.order.ensures ∙ c.in-Less.is) removed

pub returns-in_ok-balanced-in-Greater-clause-removed : goal.returns-in_ok-balanced-in-Greater-clause-removed
returns-in_ok-balanced-in-Greater-clause-removed t c =
    let removed : IsRemoved c.args.name.now (rows_of c.self.inside.right) (rows_of c.match-self-2.right) = elim c.match-self-2.branch [
      | in-Some-right+in_ok-right-in-Some-right w ↦ rw (w.right-is, w.in-Some-right.is, ← w.deref-in-Some-right.ensures) w.in_ok-right-in-Some-right.ensures.removed
      | in-None-right w ↦ rw (w.right-is, w.in-None-right.is) (made_alone refl)
    ] in
    made_right (rows_of c.self.inside.left) c.self.inside.entry.value (rows_are c.self.view_is) (rw (c.in_ok-same-in-Greater.ensures, c.in_ok-share-in-Greater.ensures.rows) at c.in_ok-balanced-in-Greater.ensures.rows)
    (sym c.order.ensures ∙ c.in-Greater.is) removed

pub returns-in-Equal-clause-removed : goal.returns-in-Equal-clause-removed
returns-in-Equal-clause-removed t c = IfOk-weaker c.joined.result _ _
    (λ all is. made_here (rows_of c.self.inside.left) (rows_of c.self.inside.right) c.self.inside.entry.value (rows_are c.self.view_is) is (sym c.order.ensures ∙ c.in-Equal.is)) c.joined.ensures.rows
