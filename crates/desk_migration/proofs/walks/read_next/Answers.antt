use Rattle.{std.proofs.Common.{true, false, refl, ◌∙◌, rules}, desk_migration.proofs.{PartRows.{all_held, part_row}, Walking.enters_part}}
use Rattle.desk_store_pages.proofs.Looking.{fails, finds, refuses}
use Rattle.desk_migration.proofs.walks.read_next.Goals as goal

pub returns-in_err-part_from-clause-looks : goal.returns-in_err-part_from-clause-looks
returns-in_err-part_from-clause-looks g c = fails c.from_residual.result c.in_err-part_from.ensures.looks c.from_residual.ensures.1 (λ m tidy. tt)

pub returns-then-not-branch-clause-looks : goal.returns-then-not-branch-clause-looks
returns-then-not-branch-clause-looks g c = finds c.in_ok-part_from.ensures.looks (λ m is walking. search (rules, c.if-not-branch.true, all_held))

pub returns-in_default-clause-looks : goal.returns-in_default-clause-looks
returns-in_default-clause-looks g c = refuses c.in_ok-part_from.ensures.looks (λ m is tidy.
    c.in_default.ensures (part_row m c.args.walk.now.from c.part_from.new.row tidy (rw c.as_slice.ensures.bytes at (rw c.if-not-branch.false at is))))

pub returns-clause-under : goal.returns-clause-under
returns-clause-under g c = search (rules, c.set.ensures, c.in_ok-part_from.ensures.under, c.if-not-branch.false)

pub returns-clause-looks : goal.returns-clause-looks
returns-clause-looks g c = finds c.in_ok-part_from.ensures.looks (λ m is walking.
    enters_part m c.args.walk.now _ c.part_from.new.row walking (rw c.as_slice.ensures.bytes at (rw c.if-not-branch.false at is)) c.in-Some.ensures (c.set.ensures ∙ c.as_slice-2.ensures.bytes) refl refl refl)
