use Rattle.{std.proofs.Common.rules, desk_migration.proofs.Walking.told_at, desk_store_pages.proofs.Looking.{begins, tells}}
use Rattle.desk_migration.proofs.walks.is_held_at.Goals as goal

pub returns-then-names_too : goal.returns-then-names_too
returns-then-names_too g c = search (rules, begins, c.names_too.ensures, c.if-names_too.true)

pub returns : goal.returns
returns g c = tells c.is_held.result c.is_held.ensures (λ m is. told_at c.args.plan c.args.number c.args.seen.now m is (c.ranges.plan.fits, c.ranges.number.fits)) (λ m is. is)
