use Rattle.{std.{specs.Prelude.{None, OnOk}, proofs.Common.{List, ℕ, subst, ◌∙◌}}, page_btree_gets.specs.Seeking.IsRead}
use Rattle.page_btree_gets.proofs.seeks.leaf_after.Goals as goal

pub returns-clause-read : goal.returns-clause-read
returns-clause-read g c = λ honest m r. subst (λ (key : List ℕ). OnOk c.leaf_for.result (IsRead r.tree None None key c.leaf_for.new.leaf c.leaf_for.new.held)) (c.as_slice-2.ensures.bytes ∙ c.set.ensures ∙ c.as_slice.ensures.bytes) (c.leaf_for.ensures.read honest m r)
