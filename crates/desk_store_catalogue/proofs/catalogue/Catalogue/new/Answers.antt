use Rattle.desk_store_catalogue.proofs.Whole.{none_whole}
use Rattle.desk_store_catalogue.proofs.catalogue.Catalogue.new.Goals as goal

pub invariant_of-result-2 : goal.invariant_of-result-2
invariant_of-result-2 c = rw c.new.ensures (none_whole _)
