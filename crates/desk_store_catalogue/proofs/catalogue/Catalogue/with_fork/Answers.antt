use Rattle.{std.proofs.Common.sym, desk_store_catalogue.proofs.Whole.forked_whole}
use Rattle.desk_store_catalogue.proofs.catalogue.Catalogue.with_fork.Goals as goal

pub with_plans-requires : goal.with_plans-requires
with_plans-requires c = rw (c.in-Ok-insert.ensures, c.in-Ok.ensures, ← c.self.view_is) (forked_whole _ c.self.inside.plans c.self.invariant c.args.plan c.args.from.0 c.in-Some.source.now.1 _ _
    c.in-Some.ensures.found (sym c.in-Some-revision.ensures))
