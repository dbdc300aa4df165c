use Rattle.{std.proofs.{Common.{sym, ◌∙◌}, lemmas.Result.IfOk-weaker}, desk_store_plans.specs.{Rows.IsPut, Tree.rows_of}}
use Rattle.desk_store_plans.proofs.Splits.{made_left, made_right, made_here, made_alone, rows_are}
use Rattle.desk_store_plans.proofs.tree.Tree.+put.Goals as goal
use Rattle.desk_store_plans.proofs.tree.Tree.+put.Goals.{in-Some+in_ok-left-in-Some, in-None+in_ok-left-in-None, in-Some-right+in_ok-right-in-Some-right, in-None-right+in_ok-right-in-None-right}

pub returns-in_ok-share-in-Less-clause-put : goal.returns-in_ok-share-in-Less-clause-put
returns-in_ok-share-in-Less-clause-put t c =
    let put : IsPut c.args.entry.value (rows_of c.self.inside.left) c.match-self.left.value.1 = elim c.match-self.branch [
      | in-Some+in_ok-left-in-Some w ↦ rw (w.left-is, w.in-Some.is, ← w.deref.ensures) w.in_ok-left-in-Some.ensures.put
      | in-None+in_ok-left-in-None w ↦ rw (w.left-is, w.in-None.is) (made_alone w.in_ok-left-in-None.ensures.rows)
    ] in
    IfOk-weaker c.balanced.result _ _ (λ n is. made_left (rows_of c.self.inside.right) c.self.inside.entry.value (rows_are c.self.view_is)
    (rw (c.in_ok-same-in-Less.ensures, c.in_ok-share-in-Less.ensures.rows) at is) (sym c.order_of.ensures ∙ c.in-Less.is) put) c.balanced.ensures.rows

pub returns-in_ok-same-in-Greater-clause-put : goal.returns-in_ok-same-in-Greater-clause-put
returns-in_ok-same-in-Greater-clause-put t c =
    let put : IsPut c.args.entry.value (rows_of c.self.inside.right) c.match-self-2.right.value.1 = elim c.match-self-2.branch [
      | in-Some-right+in_ok-right-in-Some-right w ↦ rw (w.right-is, w.in-Some-right.is, ← w.deref-in-Some-right.ensures) w.in_ok-right-in-Some-right.ensures.put
      | in-None-right+in_ok-right-in-None-right w ↦ rw (w.right-is, w.in-None-right.is) (made_alone w.in_ok-right-in-None-right.ensures.rows)
    ] in
    IfOk-weaker c.balanced-in-Greater.result _ _ (λ n is. made_right (rows_of c.self.inside.left) c.self.inside.entry.value (rows_are c.self.view_is)
    (rw (c.in_ok-same-in-Greater.ensures, c.in_ok-share-in-Greater.ensures.rows) at is) (sym c.order_of.ensures ∙ c.in-Greater.is) put) c.balanced-in-Greater.ensures.rows

pub returns-in_ok-share-in-Equal-2-clause-put : goal.returns-in_ok-share-in-Equal-2-clause-put
returns-in_ok-share-in-Equal-2-clause-put t c =
    IfOk-weaker c.fork.result _ _ (λ n is. made_here (rows_of c.self.inside.left) (rows_of c.self.inside.right) c.self.inside.entry.value (rows_are c.self.view_is)
    (rw (c.in_ok-share-in-Equal.ensures.rows, c.in_ok-share-in-Equal-2.ensures.rows) at is) (sym c.order_of.ensures ∙ c.in-Equal.is)) c.fork.ensures.rows
