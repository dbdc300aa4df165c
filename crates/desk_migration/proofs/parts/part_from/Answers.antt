use Rattle.{std.proofs.Common.{nat_eq, rules}, desk_store_rows.specs.Keys.parts_prefix, desk_migration.proofs.PartRows.part_found, desk_store_pages.proofs.Looking.{fails, finds}}
use Rattle.desk_store_opening.proofs.tidy.FirstRows.{none_at_all}
use Rattle.desk_migration.proofs.parts.part_from.Goals as goal

pub returns-in_err-first_from-clause-looks : goal.returns-in_err-first_from-clause-looks
returns-in_err-first_from-clause-looks g c = fails c.from_residual.result c.in_err-first_from.ensures c.from_residual.ensures.1 (λ m is. is)

pub returns-then-not-branch-clause-looks : goal.returns-then-not-branch-clause-looks
returns-then-not-branch-clause-looks g c = finds c.in_ok-first_from.ensures (λ m is. none_at_all m c.args.from.now parts_prefix (rw c.if-not-branch.true at is))

pub returns-clause-looks : goal.returns-clause-looks
returns-clause-looks g c = search (rules, finds, c.in_ok-first_from.ensures, c.if-not-branch.false, nat_eq, c.parts.ensures, part_found)

pub returns-clause-under : goal.returns-clause-under
returns-clause-under g c = λ found. search (rules, nat_eq)
