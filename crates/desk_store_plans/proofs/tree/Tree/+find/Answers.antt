use Rattle.{std.{specs.Option.option_copied, proofs.Common.{sym, ◌∙◌, None}}, desk_store_plans.{specs.Tree.rows_of, proofs.Splits.{found_right, found_here, found_none, rows_are}}}
use Rattle.desk_store_plans.proofs.tree.Tree.+find.Goals as goal

pub returns-in-Some-right : goal.returns-in-Some-right
returns-in-Some-right t c = found_right (rows_of c.self.inside.left) c.self.inside.entry.value (option_copied c.find-in-Some-right.result) (rows_are c.self.view_is) (sym c.order.ensures ∙ c.in-Greater.is)
    (rw (c.in-Some-right.is, ← c.deref-in-Some-right.ensures) c.find-in-Some-right.ensures)

pub returns-in-None-right : goal.returns-in-None-right
returns-in-None-right t c = found_right (rows_of c.self.inside.left) c.self.inside.entry.value None (rows_are c.self.view_is) (sym c.order.ensures ∙ c.in-Greater.is)
    (rw c.in-None-right.is (found_none c.args.name.now))

pub returns-in-Equal : goal.returns-in-Equal
returns-in-Equal t c = rw c.deref-in-Equal.ensures
    (found_here (rows_of c.self.inside.left) (rows_of c.self.inside.right) c.self.inside.entry.value (rows_are c.self.view_is) (sym c.order.ensures ∙ c.in-Equal.is))
