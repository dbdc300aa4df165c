use Rattle.{std.proofs.Common.{◌≡◌, ℕ, List, ◌<◌, ◌∷◌, length, drop, subst, ap, sym, ◌∙◌}, desk_store_plans.specs.{Rows.Row, Tree.rows_of}}
use Rattle.desk_store_plans.proofs.Splits.{others_of_more, rows_are}
use Rattle.desk_store_plans.proofs.tree.Tree.+without_least.Goals as goal

pub returns-in_ok-balanced-in-Some-clause-rest : goal.returns-in_ok-balanced-in-Some-clause-rest
returns-in_ok-balanced-in-Some-clause-rest t c =
    let there : c.deref.result.now.1 ≡ rows_of c.self.inside.left = ap (λ (v : ℕ × List Row). v.1) c.deref.ensures ∙ ap rows_of (sym c.in-Some.is) in
    (rw (c.in_ok-rest-in-Some.ensures.rest, there, c.in_ok-same-in-Some.ensures, c.in_ok-share-in-Some.ensures.rows) at c.in_ok-balanced-in-Some.ensures.rows)
    ∙ sym (others_of_more (rows_of c.self.inside.left) (c.self.inside.entry.value ∷ rows_of c.self.inside.right) (subst (λ (l : List Row). 0 < length l) there c.without_least.ensures.some))
    ∙ ap (drop 1) (rows_are c.self.view_is)
