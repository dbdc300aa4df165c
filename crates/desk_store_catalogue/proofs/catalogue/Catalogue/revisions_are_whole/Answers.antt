use Rattle.desk_store_catalogue.proofs.Whole.{revision_whole}
use Rattle.desk_store_catalogue.proofs.catalogue.Catalogue.revisions_are_whole.Goals as goal

pub returns : goal.returns
returns c = rw (← c.self.view_is) (revision_whole _ c.self.inside.plans c.self.invariant)
