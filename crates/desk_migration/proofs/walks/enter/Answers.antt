use Rattle.{desk_migration.proofs.Walking.stays_within, desk_store_pages.proofs.Looking.begins}
use Rattle.desk_migration.proofs.walks.enter.Goals as goal

pub returns-then-walk-clause-looks : goal.returns-then-walk-clause-looks
returns-then-walk-clause-looks g c = begins (λ m holds walking. stays_within m c.args.walk.now c.if-walk.true walking)
