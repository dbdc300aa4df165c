-- What a list of blocks has of a county.
use Rattle.std.specs.{List.Any, Prelude.{◌≡◌, ◌↔◌, ℕ, ◌<◌, IsSome, Some, None}}
use Rattle.desk_model.specs.claim.{Baf.{Values, value_at}, Block.county_of, Geography.{GeographyModel, ids}, GeographyModels.AreBlocks, Step.partly_listed}

-- the county has a block that is listed, and one that isn't
pub record IsInPart (g : GeographyModel) (listed : Values) (county : ℕ) : Type 0 where
  pub some : Any (λ id. (county_of id ≡ county) × IsSome (value_at listed id)) (ids g)
  pub not_all : Any (λ id. (county_of id ≡ county) × (value_at listed id ≡ None)) (ids g)

-- and no smaller county has both
pub record IsLeastInPart (g : GeographyModel) (listed : Values) (county : ℕ) : Type 0 where
  pub part : IsInPart g listed county
  pub least : (other : ℕ) → other < county → ¬ IsInPart g listed other

pub record IsLeastTold (g : GeographyModel) (listed : Values) : Type 0 where
  pub least : (county : ℕ) → (partly_listed g listed ≡ Some county) ↔ IsLeastInPart g listed county
  pub none : (partly_listed g listed ≡ None) ↔ ((county : ℕ) → ¬ IsInPart g listed county)

-- a patch of a state's blocks is refused with the least county that it lists in part, and only where there is one
abbrev pub LeastCountyIsTold : Type 0
LeastCountyIsTold = (g : GeographyModel) (listed : Values) → AreBlocks g.blocks → IsLeastTold g listed
