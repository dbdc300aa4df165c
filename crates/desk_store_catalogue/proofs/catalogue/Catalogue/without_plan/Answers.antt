use Rattle.desk_store_catalogue.proofs.Whole.{removed_whole}
use Rattle.desk_store_catalogue.proofs.catalogue.Catalogue.without_plan.Goals as goal

pub with_plans-requires : goal.with_plans-requires
with_plans-requires c = rw (c.in-Ok.ensures, ← c.self.view_is) (removed_whole _ c.self.inside.plans c.self.invariant _)
