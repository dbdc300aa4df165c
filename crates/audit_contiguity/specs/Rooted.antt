-- Trees with the lowest roots of each district.
use Rattle.std.specs.Prelude.{◌≡◌, ℕ, ◌+◌, ◌-◌, List, length}
use Rattle.{audit_contiguity.specs.{Forest.IsForest, Lowest.AreAllLowest, declared.lowest.Lowest.Lowest}, desk_model.specs.claim.Geography.GeographyModel}

-- the plan's trees over the blocks, and the lowest roots of its districts from first to last
pub record AreRooted (g : GeographyModel) (plan : List ℕ) (first last : ℕ) (parents : List ℕ) (lowest : List Lowest) : Type 0 where
  pub beside : length plan ≡ length g.blocks
  pub forest : IsForest g.pairs plan first last (length g.pairs) parents
  pub lowest_are : AreAllLowest parents plan (length plan) first (last + 1 - first) lowest
