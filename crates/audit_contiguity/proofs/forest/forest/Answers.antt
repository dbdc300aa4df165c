use Rattle.audit_contiguity.proofs.Growth.{forest_alone}
use Rattle.audit_contiguity.proofs.forest.forest.Goals as goal

pub join_pairs-requires : goal.join_pairs-requires
join_pairs-requires c = forest_alone _ _ _ _ _ c.requires (rw c.as_mut_slice.ensures.value c.in_ok-parents.ensures)
