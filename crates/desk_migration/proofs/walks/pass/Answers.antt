use Rattle.{std.proofs.Common.{List, ℕ, length, ap, ◌∙◌, rules}, desk_migration.{specs.Walks.after, proofs.Order.under_after}}
use Rattle.desk_migration.proofs.walks.pass.Goals as goal

pub key_after-after-requires : goal.key_after-after-requires
key_after-after-requires c = ap (λ (k : List ℕ). length k) c.as_slice.ensures.bytes ∙ c.requires.under.1 c.requires.within

pub returns-clause-under : goal.returns-clause-under
returns-clause-under c = search (rules, c.set.ensures, c.key_after-after.ensures, under_after)

pub returns-clause-from : goal.returns-clause-from
returns-clause-from c = c.set.ensures ∙ c.key_after-after.ensures ∙ ap after c.as_slice.ensures.bytes
