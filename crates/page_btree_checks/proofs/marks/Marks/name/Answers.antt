use Rattle.{std.proofs.Common.rules, page_btree_checks.proofs.Named.{unseen_set, unseen_some}}
use Rattle.page_btree_checks.proofs.marks.Marks.name.Goals as goal

pub invariant_of-self : goal.invariant_of-self
invariant_of-self c = search (rules, unseen_set)

pub returns-clause-named : goal.returns-clause-named
returns-clause-named c = search (rules, unseen_some)
